-- Each slot by its number.
use Rattle.std.proofs.Common.{ℕ, ◌∙◌, refl, sym, ap, arith, rules}
use Rattle.std.proofs.lemmas.Iterator.{YieldsList-from_range}
use Rattle.std.proofs.lemmas.Iterator.Search.{all_from_yields_List}
use Rattle.base.specs.Ranges.{all-in}
use Rattle.sections.specs.Rows.{slot_in}
use Rattle.clear_rows.specs.Clear.{slot_fits}
use Rattle.sound_rows.specs.Hold.{slots_hold}
use Rattle.sound_rows.specs.Answers.{slots-seen}
use Rattle.sound_rows.proofs.slots_hold.Goals as goal

pub returns : goal.returns
unfolding slots_hold
returns c =
    let test = λ (i : ℕ). slot_fits c.args.free (slot_in c.slots_of-slots.result.now i) in
    all-in test _ c.size-n.result _ c.all.result
    (all_from_yields_List test _ _ c.all.result c.all.ensures.ran (YieldsList-from_range 0 c.size-n.result c.size-n.result refl (omega arith)) (λ x b q k. search rules))
    (c.size-n.ensures ∙ sym (slots-seen c.args.t.now))
    (λ i h. ap (λ f. slot_fits c.args.free (f i)) c.slots_of-slots.ensures)
