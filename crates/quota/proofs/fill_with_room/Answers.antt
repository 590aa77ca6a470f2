-- `quota::fill_with_room` meets its contract: what serving leaves is the method's own allotment.
use mathlib.Core.Path.{ap, sym, ◌∙◌}
use lib.ListN.{length}
use Rattle.quota.specs.inner.Serving.{problem_peopled}
use Rattle.quota.specs.inner.Rounds.{seats_long_lem, rounds_are_quota}
use Rattle.quota.specs.inner.Play.{outer_of, first_key_of, can_mark, can_play, all_started}
use Rattle.quota.proofs.fill_with_room.Goals as goal

pub mark_all-requires : goal.mark_all-requires
mark_all-requires c =
    let can = can_mark c.requires.fillable.problem c.requires.room c.fill_wholes.ensures in
    record { problem = can.0; wholes_value = can.1 }

pub play-requires : goal.play-requires
play-requires c =
    can_play c.requires.fillable.problem c.requires.room (outer_of c.args.populations.now c.args.house)
    c.args.outside.now.tree.now c.fill_outers.ensures c.requires.room.arrivals_long

pub play-requires-2 : goal.play-requires-2
play-requires-2 c =
    can_play c.requires.fillable.problem c.requires.room (first_key_of c.args.populations.now c.args.house)
    c.args.waiting.now.tree.now c.fill_keys.ensures c.requires.room.ranking_long

pub serve-requires : goal.serve-requires
serve-requires c =
    all_started c.requires.fillable.problem c.requires.room c.fill_wholes.ensures c.mark_all.ensures
    (c.play.ensures.keys_after ∙ c.fill_outers.ensures) (c.play-2.ensures.keys_after ∙ c.fill_keys.ensures)
    c.play.ensures.played c.play-2.ensures.played

pub shape_of-due : goal.shape_of-due
shape_of-due c =
    c.mark_all.ensures.long

pub shape_of-seats : goal.shape_of-seats
shape_of-seats c =
    ap length c.serve.ensures ∙ seats_long_lem (problem_peopled c.requires.fillable.problem) c.args.house
    c.args.house ∙ sym c.requires.fillable.same_length

pub returns : goal.returns
returns c =
    c.serve.ensures ∙ rounds_are_quota (problem_peopled c.requires.fillable.problem) c.args.house
