-- The marks are lent, as many as there are regions and domains.
use Rattle.std.proofs.Common.{◌∙◌, ap, arith, length-take}
use Rattle.sizes.specs.declared.Sizes.{Sizes}
use Rattle.sound_capas.specs.Steps.{sizes-seen, lent-clear, marks-fit, capas-are}
use Rattle.sound_capas.proofs.capas_hold.Goals as goal

pub slice_bounds-claims_hold-end : goal.slice_bounds-claims_hold-end
slice_bounds-claims_hold-end c =
    omega (arith, ap (λ (z : Sizes). z.regions) c.read_sizes-z.ensures, ap (λ (z : Sizes). z.domains) c.read_sizes-z.ensures, marks-fit c.args.t.now c.requires.sized, c.requires.w_len)

pub slice_bounds-claims_hold-end-2 : goal.slice_bounds-claims_hold-end-2
slice_bounds-claims_hold-end-2 c =
    simp length-take
    (omega (arith, ap (λ (z : Sizes). z.regions) c.read_sizes-z.ensures, ap (λ (z : Sizes). z.domains) c.read_sizes-z.ensures, marks-fit c.args.t.now c.requires.sized, c.requires.w_len))

pub claims_hold-requires-clause-m_value : goal.claims_hold-requires-clause-m_value
claims_hold-requires-clause-m_value c =
    lent-clear _ _ c.requires.w_value
    (omega (arith, ap (λ (z : Sizes). z.regions) c.read_sizes-z.ensures, ap (λ (z : Sizes). z.domains) c.read_sizes-z.ensures, marks-fit c.args.t.now c.requires.sized, c.requires.w_len))

pub returns-clause-value : goal.returns-clause-value
returns-clause-value c =
    capas-are _ _ _ _ _ _ _ _ (c.read_sizes-z.ensures ∙ sizes-seen _) c.capacity.ensures c.saturating_sub.ensures c.capacity-2.ensures c.saturating_sub-want.ensures
    (simp length-take
    (omega (arith, ap (λ (z : Sizes). z.regions) c.read_sizes-z.ensures, ap (λ (z : Sizes). z.domains) c.read_sizes-z.ensures, marks-fit c.args.t.now c.requires.sized, c.requires.w_len)))
    c.claims_hold.ensures.value
