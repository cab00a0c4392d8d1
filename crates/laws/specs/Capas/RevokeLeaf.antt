-- A region without children is revoked: it leaves its parent's list, trackers change, its slot is freed and a cleanup may be queued.
-- The lists stay, and hold an older handle of it from then on.
use Rattle.std.specs.Prelude.{◌≡◌, ℕ, List}
use Rattle.std.proofs.Math.Path.{refl, subst}
use Rattle.std.proofs.Common.{sym, ap, ◌∙◌}
use Rattle.std.proofs.Math.Option.{none, some}
use Rattle.std.proofs.Math.Dec.{T}
use Rattle.base.specs.Options.{none-some, some_same}
use Rattle.rights.specs.Rights.{has, CLEANUP}
use Rattle.model.specs.Lists.{is_some, at_slot, In, without}
use Rattle.model.specs.State.{Word, State, Region, Kind, Root, Alias, Carve, parent_of, region_at, put_region, with_children}
use Rattle.model.specs.Tree.{remove_child, access_of}
use Rattle.model.specs.Regions.{give_back, leave_parent, free_region, revoke_leaf}
use Rattle.laws.specs.Accepted.{All, accepted, bind, bind-any, weaken, both, branch}
use Rattle.laws.specs.Tree.Slots.{in-length, is_live_lem, live-is}
use Rattle.laws.specs.Tree.Steps.{region-at}
use Rattle.laws.specs.Tree.Revoke.{Leaves}
use Rattle.laws.specs.Capas.Slots.{used-same}
use Rattle.laws.specs.Capas.Held.{Shares, Held}
use Rattle.laws.specs.Capas.Region.{write-region, free-held}
use Rattle.laws.specs.Capas.Queue.{cleanup-held}
use Rattle.laws.specs.Capas.Walks.{SameLists, same-lists-then, same-lists-same, same-lists-live, Walked, walked-self, queued-walked, activate-held, deactivate-held}

-- the steps' state in place of leave_parent's
leave-with : (Q : State → Type 0) (i p : ℕ) (s : State) (k : Kind) → (region_at s i).kind ≡ k → parent_of k ≡ some p → Q (remove_child p i s) → Q (leave_parent i s)
unfolding leave_parent
leave-with Q i p s Root e n q = absurd (none-some none p refl n)
leave-with Q i p s (Alias r) e n q = rw (e, leave_parent) (subst (λ m. Q (remove_child m i s)) (sym (some_same (some r) r p refl n)) q)
leave-with Q i p s (Carve r) e n q = rw (e, leave_parent) (subst (λ m. Q (remove_child m i s)) (sym (some_same (some r) r p refl n)) q)

module _ (own man : Shares) where
  -- the clauses, the domains of s, and whatever region was live in s
  record Left (s t : State) : Type 0 where
    held : Held own man t
    same_lists : SameLists s t
    live : (j : ℕ) → T (is_some (at_slot s.regions j)) → T (is_some (at_slot t.regions j))

  remove-left : (s : State) → Held own man s → (p i : ℕ) (h : Region) → In s.regions p h → Left s (remove_child p i s)
  unfolding remove_child
  remove-left s k p i h e = subst (λ (v : Region). Left s (put_region p (with_children (without i v.children) v) s)) (sym (region-at s p h e)) (record {
    held = write-region own man s k p h (with_children (without i h.children) h) e refl (k.owner_live p h e);
    same_lists = same-lists-same s _ refl refl;
    live = λ j t. subst T (sym (used-same s.regions p (in-length s.regions p h e) (some (with_children (without i h.children) h)) (ap is_some e) j)) t;
  })

  walked-left : (s t u : State) → Left s t → Walked own man t u → Left s u
  walked-left s t u a w = record { held = w.held; same_lists = same-lists-then s t u a.same_lists w.same_lists; live = λ j l. subst (λ rs. T (is_some (at_slot rs j))) (sym w.regions) (a.live j l) }

  give-kind : (closing : List ℕ) → (g : Region) (k : Kind) (p : ℕ) (s : State) → Held own man s → parent_of k ≡ some p → T (is_some (at_slot s.regions p)) → All (Walked own man s) (give_back closing (record { owner = g.owner; kind = k; start = g.start; end = g.end; rights = g.rights; children = g.children; hash = g.hash }) s)
  unfolding give_back
  give-kind closing g Root p s h n l = accepted (walked-self own man s h)
  give-kind closing g (Alias q) p s h n l = accepted (walked-self own man s h)
  give-kind closing g (Carve q) p s h n l =
      let (r, e) = live-is (at_slot s.regions q) (subst (λ m. T (is_some (at_slot s.regions m))) (sym (some_same (some q) q p refl n)) l) in
      let (x, f) = live-is (at_slot s.domains (region_at s q).owner) (subst (λ (v : Region). T (is_some (at_slot s.domains v.owner))) (sym (region-at s q r e)) (h.owner_live q r e)) in
      activate-held closing own man s h (region_at s q).owner x f _

  free-steady : (i : ℕ) (s : State) → All (SameLists s) (free_region i s)
  unfolding free_region
  free-steady i s = bind-any _ (λ p. accepted (same-lists-same s _ refl refl))

  -- the clauses, and the domains of s₀
  abbrev pub HeldSameLists : State → State → Type 0
  HeldSameLists s₀ t = Held own man t × SameLists s₀ t

  pub leaf-held : (closing : List ℕ) (s₀ : State) → Leaves closing (HeldSameLists s₀)
  unfolding Leaves revoke_leaf
  leaf-held closing s₀ s i p g h (k, y) ok e empty n at =
      let g₀ = region_at s i in
      let same : g₀ ≡ g = region-at s i g e in
      let a : Left s (leave_parent i s) = leave-with (Left s) i p s g₀.kind refl (ap (λ (v : Region). parent_of v.kind) same ∙ n) (remove-left s k p i h at) in
      let owner : T (is_some (at_slot s.domains g₀.owner)) = subst (λ (v : Region). T (is_some (at_slot s.domains v.owner))) (sym same) (k.owner_live i g e) in
      let (x, f) = live-is (at_slot (leave_parent i s).domains g₀.owner) (same-lists-live s (leave_parent i s) a.same_lists g₀.owner owner) in
      bind (deactivate-held closing own man (leave_parent i s) a.held g₀.owner x f (access_of g₀)) (λ s₁ w₁.
      let a₁ = walked-left s (leave_parent i s) s₁ a w₁ in
      bind (give-kind closing g₀ g₀.kind p s₁ a₁.held (ap (λ (v : Region). parent_of v.kind) same ∙ n) (a₁.live p (is_live_lem (at_slot s.regions p) h at))) (λ s₂ w₂.
      let a₂ = walked-left s s₁ s₂ a₁ w₂ in
      let (r, m) = live-is (at_slot s₂.regions i) (a₂.live i (is_live_lem (at_slot s.regions i) g e)) in
      bind (both (free-held own man s₂ a₂.held i r m) (free-steady i s₂)) (λ s₃ (b, c).
      let d = same-lists-then s₀ s s₃ y (same-lists-then s s₂ s₃ a₂.same_lists c) in
      branch (has g₀.rights CLEANUP)
      (weaken (cleanup-held own man s₃ b g₀.start g₀.end (subst (λ (v : Region). Word v.start) (sym same) (ok i g e).start_word) (subst (λ (v : Region). Word v.end) (sym same) (ok i g e).end_word)) (λ t q. (q.0, same-lists-then s₀ s₃ t d (queued-walked own man s₃ t q).same_lists)))
      (accepted (b, d)))))
