-- The steps that change trackers, records and the queue leave the book.
use Rattle.std.specs.Prelude.{◌≡◌, ℕ, true, ◌||◌, List}
use Rattle.std.proofs.Math.Path.{refl}
use Rattle.std.proofs.Math.Dec.{eqb}
use Rattle.model.specs.Lists.{is_some, at_slot, exists}
use Rattle.model.specs.State.{State, Handle, Access, Update, Queue, with_queue, with_record_pool, with_tracker, domain_at, put_domain}
use Rattle.model.specs.Pool.{handle_of}
use Rattle.model.specs.Updates.{push, push_permission, is_permission_of}
use Rattle.model.specs.Tracker.{Walk}
use Rattle.model.specs.Regions.{put_walk, activate, deactivate}
use Rattle.laws.specs.Accepted.{All, accepted, bind-any, and_then, branch}
use Rattle.book.specs.Book.{Book}
use Rattle.book.specs.Matches.{MatchesAt}
use Rattle.book.proofs.Slots.{OnlyDomains, put-only-domains, domain-match}

module _ (b : Book) (at : ℕ → Handle) (place : ℕ → ℕ) where
  -- matched, and what stays
  abbrev pub MatchesAfter : State → State → Type 0
  MatchesAfter s t = MatchesAt b t at place × OnlyDomains s t

  queue-match : (s₀ s : State) (q : Queue) → MatchesAfter s₀ s → MatchesAfter s₀ (with_queue q s)
  queue-match s₀ s q c = (record { sizes = c.0.sizes; regions = c.0.regions; lists = c.0.lists; generations = c.0.generations }, record { pool = c.1.pool; regions = c.1.regions; domain_pool = c.1.domain_pool; opens = c.1.opens })

  push-match : (s₀ s : State) (u : Update) → MatchesAfter s₀ s → All (MatchesAfter s₀) (push u s)
  unfolding push
  push-match s₀ s u c = and_then _ (accepted (queue-match s₀ s _ c))

  permission-match : (s₀ s : State) (d m : ℕ) → MatchesAfter s₀ s → All (MatchesAfter s₀) (push_permission d m s)
  unfolding push_permission
  permission-match s₀ s d m c = branch (exists (is_permission_of (handle_of s.domain_pool d)) s.queue.items) (accepted (queue-match s₀ s _ c)) (push-match s₀ s _ c)

  walk-match : (closing : List ℕ) → (s : State) (d : ℕ) (w : Walk) → MatchesAt b s at place → is_some (at_slot s.domains d) ≡ true → All (MatchesAfter s) (put_walk closing d w s)
  unfolding put_walk
  walk-match closing s d w m i =
      let x = with_tracker w.records (domain_at s d) in
      let n = domain-match b s at place m d i x refl in
      let k = put-only-domains b s at place m d i x in
      let c : MatchesAfter s (with_record_pool w.pool (put_domain d x s)) = (record { sizes = n.sizes; regions = n.regions; lists = n.lists; generations = n.generations }, record { pool = k.pool; regions = k.regions; domain_pool = k.domain_pool; opens = k.opens }) in
      branch (exists (eqb d) closing || eqb w.marks 0) (accepted c) (permission-match s _ d w.marks c)

  pub activate-match : (closing : List ℕ) → (s : State) (d : ℕ) (a : Access) → MatchesAt b s at place → is_some (at_slot s.domains d) ≡ true → All (MatchesAfter s) (activate closing d a s)
  unfolding activate
  activate-match closing s d a m i = bind-any _ (λ w. walk-match closing s d w m i)

  pub deactivate-match : (closing : List ℕ) → (s : State) (d : ℕ) (a : Access) → MatchesAt b s at place → is_some (at_slot s.domains d) ≡ true → All (MatchesAfter s) (deactivate closing d a s)
  unfolding deactivate
  deactivate-match closing s d a m i = bind-any _ (λ w. walk-match closing s d w m i)
