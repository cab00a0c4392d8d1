-- The copy; whether it is sized, and the old words as many as they should be; then the marks.
use mathlib.Core.Path.{refl, ap}
use Rattle.base.specs.Tests.{true-false}
use Rattle.converted_words.specs.Fits.{not-sized, is-sized, in-limits, other_length, all-built}
use mathlib.Core.Bool.{not}
use Rattle.converted_words.proofs.build.Goals as goal

pub returns-then-not-is_sized : goal.returns-then-not-is_sized
returns-then-not-is_sized c = record { value = not-sized _ _ _ c.store.ensures _ c.is_sized.ensures (ap not c.if-not-is_sized.true); v_after = λ e. absurd (true-false e refl) }

pub marks_at-requires : goal.marks_at-requires
marks_at-requires c = in-limits _ _ _ c.store.ensures _ c.is_sized.ensures (ap not c.if-not-is_sized.false) _ c.read_sizes-z.ensures

pub mark_all-requires : goal.mark_all-requires
mark_all-requires c = is-sized _ _ _ c.store.ensures _ c.is_sized.ensures (ap not c.if-not-is_sized.false)

pub returns-then-old-marks_at : goal.returns-then-old-marks_at
returns-then-old-marks_at c = record { value = other_length _ _ _ c.store.ensures _ c.is_sized.ensures (ap not c.if-not-is_sized.false) _ c.read_sizes-z.ensures _ c.marks_at.ensures c.if-old-marks_at.true; v_after = λ e. absurd (true-false e refl) }

pub returns : goal.returns
returns c = let x = all-built _ _ _ c.store.ensures _ c.is_sized.ensures (ap not c.if-not-is_sized.false) _ c.read_sizes-z.ensures _ c.marks_at.ensures c.if-old-marks_at.false _ c.mark_all.ensures in record { value = x.0; v_after = λ e. x.1 }
