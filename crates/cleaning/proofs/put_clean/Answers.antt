-- `cleaning::put_clean` meets its contract: the head, the states' lines and the closing line, one after the other.
use Rattle.std.proofs.Common.{sym, rules, length-take-le}
use Rattle.writing.specs.inner.Page.{appended_then, written_whole}
use Rattle.cleaning.specs.Clean.{stored_text, clean_in}
use Rattle.cleaning.specs.inner.Room.{each_read, counted}
use Rattle.cleaning.proofs.put_clean.Goals as goal

pub slice_bounds-put_states-end : goal.slice_bounds-put_states-end
slice_bounds-put_states-end c = sym (length-take-le _ _ (each_read c.requires.cleanable))

pub put_states-requires : goal.put_states-requires
put_states-requires c = rw (counted c.requires.cleanable) c.requires.placed

pub returns : goal.returns
unfolding clean_in stored_text
returns c =
    let fit = c.requires.cleanable in
    let whole = appended_then (appended_then c.put_head.ensures c.put_states.ensures) c.put_pair.ensures in
    rw (counted fit, ← fit.sound.populations.summed)
    (written_whole c.new-page.ensures.begun whole (search rules) c.place.ensures)
