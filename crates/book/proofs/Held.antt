-- What a slot holds, in the book and in the tables; the region that it holds.
use Rattle.std.specs.Prelude.{◌≡◌, ℕ, ◌<◌, true, length, get_or}
use Rattle.std.proofs.Common.{sym, ◌∙◌, eqb→eq}
use Rattle.std.proofs.Math.Path.{ap}
use Rattle.std.proofs.Math.Option.{Option, none}
use Rattle.base.specs.Tests.{is_true, true-is}
use Rattle.model.specs.Lists.{is_some, at_slot}
use Rattle.model.specs.Outcome.{◌>>=◌, ok_or}
use Rattle.refusals.specs.Refusals.{no_slot}
use Rattle.model.specs.State.{State, Handle, Capa, domain_at}
use Rattle.model.specs.Pool.{is_live, handle_of}
use Rattle.model.specs.Locals.{capa_at}
use Rattle.model.specs.Calls.{live_region, as_region, region_held}
use Rattle.laws.specs.Accepted.{All, accepted, refused, checked}
use Rattle.book.specs.Book.{Book, Held, noted, held_at, place_in}
use Rattle.book.specs.Tests.{and_left, and_right}
use Rattle.book.specs.Matches.{both_at, SameHeld, same_free, same_emptied, same_region, same_revoke, same_management, same_channel, AtPlace, MatchesAt}
use Rattle.book.proofs.Slots.{slots-of}

-- A slot that holds x in the book holds region p in the tables, and the region lives.
pub record Found (b : Book) (s : State) (at : ℕ → Handle) (x : Option Held) (p : ℕ) : Type 0 where
  pub below : place_in x < length b.regions
  pub lives : (noted b.regions (place_in x)).alive ≡ true
  pub here : handle_of s.region_pool p ≡ at (place_in x)
  pub there : is_some (at_slot s.regions p) ≡ true

live-handle : (s : State) (h : Handle) → is_live s.region_pool s.regions h ≡ true → handle_of s.region_pool h.slot ≡ h
live-handle s h e = let g = eqb→eq (get_or s.region_pool.gens h.slot 0) h.generation (true-is (and_right (is_some (at_slot s.regions h.slot)) _ e)) in λ t. record { slot = h.slot; generation = g t }

module _ (b : Book) (s : State) (at : ℕ → Handle) (place : ℕ → ℕ) (m : MatchesAt b s at place) where
  found-held : (x : Option Held) (y : Option Capa) → SameHeld (AtPlace b.regions at) x y → All (Found b s at x) (ok_or y no_slot >>= λ c. as_region c >>= λ h. live_region s h)
  unfolding ok_or ◌>>=◌ live_region
  found-held x y same_free = refused
  found-held x y same_emptied = refused
  found-held x y (same_region {k} {h} t) = checked _ _ (λ l. accepted (record { below = t.0; lives = m.regions.alive_is_live k t.0 ∙ ap (is_live s.region_pool s.regions) (sym t.1) ∙ is_true l; here = live-handle s h (is_true l) ∙ t.1; there = and_left (is_some (at_slot s.regions h.slot)) _ (is_true l) }))
  found-held x y (same_revoke t) = refused
  found-held x y same_management = refused
  found-held x y same_channel = refused

  pub held_same : (d l : ℕ) → SameHeld (AtPlace b.regions at) (held_at b d l) (at_slot (domain_at s d).locals.held l)
  held_same d l = both_at none none l same_free (slots-of b s at place m d).held

  pub region-found : (d l : ℕ) → All (Found b s at (held_at b d l)) (region_held s d l)
  unfolding region_held capa_at
  region-found d l = found-held _ _ (held_same d l)
