-- The walk with no marks is the test; then the marks are cleared.
use Rattle.std.proofs.Common.{◌∙◌}
use Rattle.base.specs.Ranges.{both-then, both-else}
use Rattle.capa_claims.specs.Lent.{lent_is}
use Rattle.sound_capas.specs.Rows.{rows-hold}
use Rattle.sound_capas.specs.Steps.{sizes-seen}
use Rattle.sound_capas.proofs.claims_hold.Goals as goal

pub walk-seen-requires-clause-p_value : goal.walk-seen-requires-clause-p_value
walk-seen-requires-clause-p_value c = lent_is _ _ _ _ _ _ _ _ (c.read_sizes-z.ensures ∙ sizes-seen _) c.links_of-rl.ensures c.generations_of-rg.ensures c.rows_of-r.ensures c.links_of-dl.ensures c.generations_of-dg.ensures c.domains_of-p.ensures

pub returns-then-seen-clause-value : goal.returns-then-seen-clause-value
returns-then-seen-clause-value c =
    let e = c.read_sizes-z.ensures ∙ sizes-seen _ in
    both-then _ _ c.if-seen.true ∙ rows-hold _ _ _ _ _ _ e c.requires.m_value c.walk-seen.ensures ∙ rw e

pub returns-else-seen-clause-value : goal.returns-else-seen-clause-value
returns-else-seen-clause-value c =
    let e = c.read_sizes-z.ensures ∙ sizes-seen _ in
    both-else _ _ c.if-seen.false ∙ rows-hold _ _ _ _ _ _ e c.requires.m_value c.walk-seen.ensures ∙ rw e
