-- Each run is as long as the pieces are many; sorted, swept and cleared one after the other.
use Rattle.std.proofs.Common.{rules}
use Rattle.sound_trackers.specs.Swept.{domain-done}
use Rattle.sound_trackers.proofs.domain_holds.Goals as goal

pub returns : goal.returns
returns c = let h = domain-done _ _ _ _ c.gather-count.ensures _ _ _ _ _ _ c.requires (c.sort.ensures.p_after, c.sort.ensures.p_len_unchanged) (c.sort-2.ensures.p_after, c.sort-2.ensures.p_len_unchanged) c.sweep-holds.ensures (c.fill.ensures.after (λ y h. search rules)) (c.fill-2.ensures.after (λ y h. search rules)) in record { value = h.0; w_unchanged = h.1 }
