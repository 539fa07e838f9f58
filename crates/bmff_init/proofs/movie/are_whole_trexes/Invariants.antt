use Rattle.std.proofs.Common.{◌≡◌, length}
use Rattle.std.specs.Prelude.{nat_le}
use Rattle.std.specs.List.{list_all}
use lib.Chars.{codes}
use Rattle.bmff_boxes.specs.Rows.{all_of}
use Rattle.bmff_init.proofs.movie.are_whole_trexes.Given as goal

abbrev pub invariant-boxes : goal.invariant-boxes
invariant-boxes l = list_all (λ trex. nat_le 24 (length trex)) (all_of (codes "trex") l.mvex) ≡ list_all (λ trex. nat_le 24 (length trex)) (all_of (codes "trex") l.initial.mvex)

abbrev pub decreases-boxes : goal.decreases-boxes
decreases-boxes l = length l.mvex
