-- Every row of the table is established.
use Rattle.std.specs.List.{AllByRecursion}
use Rattle.worked_legs.specs.Established.{Established}
use Rattle.worked_legs.specs.Table.{table}
use Rattle.worked_legs.proofs.Deferred.{five_blanks, four_right}
use Rattle.worked_legs.proofs.FromHeld.{return_and_feed, return_and_right}
use Rattle.worked_legs.proofs.ShortCode.{addressed, rights_and_feeds}
use Rattle.worked_legs.proofs.Sticking.{feed_and_return, no_way_up}

pub table_established : AllByRecursion Established table
table_established = (
  four_right,
  (
    five_blanks,
    (
      return_and_right,
      (
        return_and_feed,
        (
          addressed,
          (
            rights_and_feeds,
            (
              feed_and_return,
              (no_way_up, tt),
            ),
          ),
        ),
      ),
    ),
  ),
)
