-- "its tracker then gains and loses as in any revoke, but queues nothing" (document 02, request 5): from its own turn on no update of a closing domain is queued,
-- and one that is queued already gathers no marks, whatever the tables are.
use Rattle.std.specs.Prelude.{◌≡◌, refl, Bool, true, false, not, ◌||◌, List, [], ◌∷◌, ◌++◌, map, T}
use Rattle.std.proofs.Common.{sym, ap, ap₂, subst, ◌∙◌}
use Prim.Native.Nat.{ℕ, zero, suc}
use Rattle.std.proofs.Math.Dec.{T_not, not_T, eqb}
use Rattle.rights.specs.Rights.{has, CLEANUP}
use Rattle.base.specs.Cases.{holds, fails, test}
use Rattle.base.specs.Tests.{is_false, true-is, or_r}
use Rattle.model.specs.Lists.{exists, keep}
use Rattle.model.specs.Outcome.{Outcome, ◌>>=◌}
use Rattle.model.specs.State.{State, Handle, Region, Kind, Root, Alias, Carve, Access, Update, permission, cleanup, region_at}
use Rattle.model.specs.Pool.{handle_of, same_handle}
use Rattle.model.specs.Tracker.{Walk}
use Rattle.model.specs.Tree.{access_of, remove_child}
use Rattle.model.specs.Updates.{push, push_permission, is_permission_of, gather}
use Rattle.model.specs.Regions.{put_walk, activate, deactivate, give_back, leave_parent, free_region, revoke_leaf, revoke_region}
use Rattle.model.specs.Closing.{free_domain, close_domain}
use Rattle.laws.specs.Accepted.{All, accepted, bind, bind-any, and_then, weaken, branch, branch-on}
use Rattle.laws.specs.Answers.{answer}
use Rattle.laws.specs.Gather.{gather-of, gather-other}
use Rattle.laws.specs.Capas.Live.{handle-same, handle-differs}
use Rattle.laws.specs.Keep.Tracked.{put}
use Rattle.laws.specs.Keep.RevokeLeaf.{leave-all}
use Rattle.laws.specs.Close.AnyTables.{all-gives, close-gives}

-- the queued updates of the domain with handle h, core maps and marks included
abbrev pub entries_of : Handle → List Update → List Update
entries_of h l = keep (is_permission_of h) l

-- those of a closing domain are the same
abbrev pub Still : List ℕ → State → State → Type 0
Still closing s t = (h : Handle) → T (exists (eqb h.slot) closing) → entries_of h t.queue.items ≡ entries_of h s.queue.items

-- ---- the queue

entries-end : (h : Handle) (u : Update) → is_permission_of h u ≡ false → (l : List Update) → entries_of h (l ++ (u ∷ [])) ≡ entries_of h l
entries-end h u n [] = rw n
entries-end h u n (x ∷ l) = elim (test (is_permission_of h x)) [
  | holds t ↦ rw t (ap (λ k. x ∷ k) (entries-end h u n l))
  | fails t ↦ rw t (entries-end h u n l)
]

-- an update of one domain is not one of another
one-domain : (h k : Handle) (P : Handle → Type 0) → P h → (P k → ⊥) → (u : Update) → is_permission_of h u ≡ true → is_permission_of k u ≡ false
one-domain h k P p n (permission j cores marks) t = is_false (not_T (same_handle k j) (λ v. n (subst P (handle-same h j (true-is t) ∙ sym (handle-same k j v)) p)))
one-domain h k P p n (cleanup a b) t = refl

entries-gather : (h k : Handle) (P : Handle → Type 0) → P h → (P k → ⊥) → (m : ℕ) (l : List Update) → entries_of h (map (gather k m) l) ≡ entries_of h l
entries-gather h k P p n m [] = refl
entries-gather h k P p n m (x ∷ l) = elim (test (is_permission_of h x)) [
  | holds t ↦ rw (gather-of k m h x, t) (ap₂ ◌∷◌ (gather-other k m x (one-domain h k P p n x t)) (entries-gather h k P p n m l))
  | fails t ↦ rw (gather-of k m h x, t) (entries-gather h k P p n m l)
]

neither : (a b : Bool) → T (not (a || b)) → T (not a)
neither true b t = t
neither false b t = tt

-- ---- the steps of a revoke

module _ (closing : List ℕ) where
  abbrev IsClosing : Handle → Type 0
  IsClosing h = T (exists (eqb h.slot) closing)

  still-then : (s t u : State) → Still closing s t → Still closing t u → Still closing s u
  still-then s t u a b h i = b h i ∙ a h i

  and_so : (s t : State) {m : Outcome State} → Still closing s t → All (Still closing t) m → All (Still closing s) m
  and_so s t a b = weaken b (λ u c. still-then s t u a c)

  push-still : (u : Update) (s : State) → ((h : Handle) → IsClosing h → is_permission_of h u ≡ false) → All (Still closing s) (push u s)
  unfolding push
  push-still u s n = and_then _ (accepted (λ h i. entries-end h u (n h i) s.queue.items))

  permission-still : (d m : ℕ) (s : State) → T (not (exists (eqb d) closing)) → All (Still closing s) (push_permission d m s)
  unfolding push_permission
  permission-still d m s n =
      let k = handle_of s.domain_pool d in
      let not-closing : IsClosing k → ⊥ = T_not (exists (eqb d) closing) n in
      branch (exists (is_permission_of k) s.queue.items) (accepted (λ h i. entries-gather h k IsClosing i not-closing m s.queue.items)) (push-still _ s (λ h i. handle-differs IsClosing h k i not-closing))

  walk-still : (d : ℕ) (w : Walk) (s : State) → All (Still closing s) (put_walk closing d w s)
  unfolding put_walk
  walk-still d w s = branch-on (exists (eqb d) closing || eqb w.marks 0) (λ t. accepted (λ h i. refl)) (λ t. and_so s (put s d w) (λ h i. refl) (permission-still d w.marks (put s d w) (neither (exists (eqb d) closing) (eqb w.marks 0) t)))

  gain-still : (d : ℕ) (a : Access) (s : State) → All (Still closing s) (activate closing d a s)
  unfolding activate
  gain-still d a s = bind-any _ (λ w. walk-still d w s)

  lose-still : (d : ℕ) (a : Access) (s : State) → All (Still closing s) (deactivate closing d a s)
  unfolding deactivate
  lose-still d a s = bind-any _ (λ w. walk-still d w s)

  give-kind : (g : Region) (k : Kind) (s : State) → All (Still closing s) (give_back closing (record { owner = g.owner; kind = k; start = g.start; end = g.end; rights = g.rights; children = g.children; hash = g.hash }) s)
  unfolding give_back
  give-kind g Root s = accepted (λ h i. refl)
  give-kind g (Alias p) s = accepted (λ h i. refl)
  give-kind g (Carve p) s = gain-still _ _ s

  leave-still : (i : ℕ) (s : State) → Still closing s (leave_parent i s)
  unfolding remove_child
  leave-still i s = leave-all (Still closing s) i s (λ h j. refl) (λ p h j. refl)

  free-still : (i : ℕ) (s : State) → All (Still closing s) (free_region i s)
  unfolding free_region
  free-still i s = bind-any _ (λ p. accepted (λ h j. refl))

  leaf-still : (i : ℕ) (s : State) → All (Still closing s) (revoke_leaf closing i s)
  unfolding revoke_leaf
  leaf-still i s =
      let g = region_at s i in
      bind (and_so s (leave_parent i s) (leave-still i s) (lose-still g.owner (access_of g) (leave_parent i s))) (λ s₁ a.
      bind (and_so s s₁ a (give-kind g g.kind s₁)) (λ s₂ b.
      bind (and_so s s₂ b (free-still i s₂)) (λ s₃ c.
      branch (has g.rights CLEANUP) (and_so s s₃ c (push-still (cleanup g.start g.end) s₃ (λ h j. refl))) (accepted c))))

  by-list : (n i : ℕ) (s : State) → ((j : ℕ) (t : State) → All (Still closing t) (revoke_region closing n j t)) → (ks : List ℕ) → All (Still closing s) (elim ks [ [] ↦ revoke_leaf closing i s | c ∷ cs ↦ revoke_region closing n c s >>= λ t. revoke_region closing n i t ])
  by-list n i s h [] = leaf-still i s
  by-list n i s h (c ∷ cs) = bind (h c s) (λ t a. and_so s t a (h i t))

  pub revoke-still : (n i : ℕ) (s : State) → All (Still closing s) (revoke_region closing n i s)
  unfolding revoke_region
  revoke-still zero i s = accepted (λ h j. refl)
  revoke-still (suc n) i s = by-list n i s (revoke-still n) (region_at s i).children

free-domain-still : (closing : List ℕ) (d : ℕ) (s : State) → All (Still closing s) (free_domain d s)
unfolding free_domain
free-domain-still closing d s = bind-any _ (λ p. accepted (λ h i. refl))

-- THEOREM: from the turn of domain d on neither it nor any that was closing already is queued, nor gathers an update of it marks
pub close-silent : (n : ℕ) (closing : List ℕ) (d : ℕ) (s : State) → All (Still (d ∷ closing) s) (close_domain n closing d s)
close-silent n closing d s = answer (close-gives
    (λ c. (h : Handle) → IsClosing (d ∷ closing) h → IsClosing c h)
    (λ e c q h i. or_r (eqb h.slot e) (exists (eqb h.slot) c) (q h i))
    (Still (d ∷ closing) s) (λ r. Unit {0})
    (λ c q m i t p. all-gives (and_so (d ∷ closing) s t p (weaken (revoke-still c m i t) (λ u a h j. a h (q h j)))))
    (λ e t p. all-gives (and_so (d ∷ closing) s t p (free-domain-still (d ∷ closing) e t)))
    n closing d s (λ h i. i) (λ h i. refl))
