-- Closing from here is the whole from the start.
use Rattle.std.proofs.Common.{arith, refl, sym, ◌∙◌, inl, inr}
use Rattle.base.specs.Clauses.{value_left}
use Rattle.answers.specs.Then.{same_step}
use Rattle.closing.specs.Walks.{close-ends, close-on, close-refused, close-out, close-begins, slot-region, slot-none, slot-closes, slot-dead}
use Rattle.closing.proofs.+close_domain_revoke_slot.Goals as goal

pub close_domain-returns-then-waiting-eq0 : goal.close_domain-returns-then-waiting-eq0
close_domain-returns-then-waiting-eq0 t c = value_left (close-out _ _ _ _ c.requires c.if-waiting-eq0.true)

pub close_domain-loop-j-init : goal.close_domain-loop-j-init
close_domain-loop-j-init t c = (c.requires, close-begins _ _ _ _ _ _ c.if-waiting-eq0.false c.add-now_closing.ensures c.size-n.ensures)

pub close_domain-returns-in_err-revoke_slot : goal.close_domain-returns-in_err-revoke_slot
close_domain-returns-in_err-revoke_slot t c = value_left (close-refused _ _ _ _ _ _ c.loop-j.invariant.1 c.loop-j-test.true _ _ (c.revoke_slot.ensures.value, c.revoke_slot.ensures.left) _ c.in_err-revoke_slot.was _ c.from_residual.ensures.1)

pub close_domain-loop-j-preserved : goal.close_domain-loop-j-preserved
close_domain-loop-j-preserved t c = (c.revoke_slot.ensures.left.sized, close-on _ _ _ _ _ _ c.loop-j.invariant.1 c.loop-j-test.true _ _ (c.revoke_slot.ensures.value, c.revoke_slot.ensures.left) _ c.in_ok-revoke_slot.was)

pub close_domain-returns : goal.close_domain-returns
close_domain-returns t c = value_left (same_step _ _ _ _ (close-ends _ _ _ _ _ _ c.loop-j.invariant.1 c.loop-j-test.false) (c.free_domain.ensures.value, c.free_domain.ensures.left))

pub revoke_slot-returns-in-2 : goal.revoke_slot-returns-in-2
revoke_slot-returns-in-2 t c = value_left (same_step _ _ _ _ (slot-region _ _ _ _ _ _ c.capa_at-x.ensures (omega arith) (omega arith)) (c.revoke_live.ensures.value, c.revoke_live.ensures.left))

pub revoke_slot-returns-in-4 : goal.revoke_slot-returns-in-4
revoke_slot-returns-in-4 t c = value_left (same_step _ _ _ _ (slot-closes _ _ _ _ _ _ c.capa_at-x.ensures c.in-4.is (sym c.is_live.ensures ∙ c.if-is_live.true)) (c.close_domain.ensures.value, c.close_domain.ensures.left))

pub revoke_slot-returns-in_default : goal.revoke_slot-returns-in_default
revoke_slot-returns-in_default t c = value_left (slot-dead _ _ _ _ _ _ c.capa_at-x.ensures _ c.requires refl c.in-4.is (sym c.is_live.ensures ∙ c.if-is_live.false))

pub revoke_slot-returns-in_default-2 : goal.revoke_slot-returns-in_default-2
revoke_slot-returns-in_default-2 t c = value_left (slot-none _ _ _ _ _ _ c.capa_at-x.ensures _ c.requires refl (inl (omega arith)))

pub revoke_slot-returns-in_default-3 : goal.revoke_slot-returns-in_default-3
revoke_slot-returns-in_default-3 t c = value_left (slot-none _ _ _ _ _ _ c.capa_at-x.ensures _ c.requires refl (inr (omega arith)))
