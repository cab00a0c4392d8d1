-- Cases of document 02's request 5, closing a domain: what calls answer, and what a close leaves of the pools and the queue.
use Rattle.std.specs.Prelude.{◌≡◌, refl, ℕ}
use Rattle.std.proofs.Math.Option.{Option, none, some}
use mathlib.Core.List.{List, [], ◌∷◌, ◌++◌, map, flat_map}
use Rattle.refusals.specs.declared.Refusal.{Refusal}
use Rattle.refusals.specs.Refusals.{no_domain, stale, not_carried, ring_full, holds_root, running}
use Rattle.model.specs.Lists.{one_if, is_some}
use Rattle.model.specs.State.{State, Handle, no_options, Domain, Record, Update, permission, cleanup}
use Rattle.model.specs.Making.{empty_tables}
use Rattle.model.specs.Perform.{Step, Call, Value, Answer, run}
use Rattle.model.proofs.Checked.Compute.{computing}
use Rattle.model.proofs.Checked.Script.{dom, access}
use Rattle.model.proofs.Checked.Edges.{passes}
use Rattle.model.proofs.Checked.OurCases.{SizedCase, answered, gives, z, opened, root_of, channel, revoke}

-- ---- calls for short

-- domain d's handle after its slot was freed once
abbrev again : ℕ → Handle
again d = record { slot = d; generation = 1 }

-- a domain under domain d, with a core map; region calls of domain d
abbrev pub under : ℕ → ℕ → Call
under d cores = Call.Do (Step.Open (some (dom d)) cores)

abbrev pub alias : ℕ → ℕ → ℕ → ℕ → ℕ → Call
alias d l s e r = Call.Do (Step.Alias (dom d) l (access s e r))

abbrev carve : ℕ → ℕ → ℕ → ℕ → ℕ → Call
carve d l s e r = Call.Do (Step.Carve (dom d) l (access s e r))

-- domain d sends slot l to the domain that its slot t names
abbrev pub send : ℕ → ℕ → ℕ → Call
send d l t = Call.Do (Step.Send (dom d) l t no_options)

-- what was queued is popped
abbrev popped : List Call
popped = Call.Pop ∷ Call.Pop ∷ Call.Pop ∷ Call.Pop ∷ []

-- domain 0 with domain 1 below it, Management in slot 0, and a root 0 to 16 in slot 1
abbrev pair : List Call
pair = opened 0 ∷ under 0 0 ∷ root_of 0 16 3 ∷ []

-- and domain 2 below domain 1, Management in domain 1's slot 0
abbrev chain : List Call
chain = pair ++ (under 1 0 ∷ [])

-- ---- what a close leaves

-- 1 for each slot in use
abbrev used : {A : Type 0} → List (Option A) → List ℕ
used l = map (λ x. one_if (is_some x)) l

-- start, end and reach of each record
abbrev spans : Option Domain → List ℕ
spans none = []
spans (some x) = flat_map (λ (q : Record). q.start ∷ q.end ∷ q.counts.reach ∷ []) x.tracker

-- Domain 0 revokes slot 0, the Management of domain 1, after these calls. Afterwards the domains and the regions stand so, each with generations and free
-- slots, the one given next first; so the trackers, and so the queue.
record Case : Type 0 where
  given : List Call
  domains : List (List ℕ)
  regions : List (List ℕ)
  trackers : List (List ℕ)
  queue : List Update

abbrev after : List Call → State
after cs = (run (empty_tables (z 3 4 4 6 4)) (cs ++ (revoke 0 ∷ []))).1

abbrev closed : Case → Case
closed c = let s = after c.given in record {
  given = c.given;
  domains = used s.domains ∷ s.domain_pool.gens ∷ s.domain_pool.free ∷ [];
  regions = used s.regions ∷ s.region_pool.gens ∷ s.region_pool.free ∷ [];
  trackers = map spans s.domains;
  queue = s.queue.items;
}

-- domain 1 is gone; domain 2, too, which was freed first
abbrev one_gone : List (List ℕ)
one_gone = (1 ∷ 0 ∷ 0 ∷ []) ∷ (0 ∷ 1 ∷ 0 ∷ []) ∷ (1 ∷ 2 ∷ []) ∷ []

abbrev two_gone : List (List ℕ)
two_gone = (1 ∷ 0 ∷ 0 ∷ []) ∷ (0 ∷ 1 ∷ 1 ∷ []) ∷ (1 ∷ 2 ∷ []) ∷ []

-- of the regions the root is left: region 1 was freed, region 2 before it, region 2 after it
abbrev root_left : List ℕ
root_left = 1 ∷ 0 ∷ 0 ∷ 0 ∷ []

abbrev alias_freed : List (List ℕ)
alias_freed = root_left ∷ (0 ∷ 1 ∷ 0 ∷ 0 ∷ []) ∷ (1 ∷ 2 ∷ 3 ∷ []) ∷ []

abbrev child_first : List (List ℕ)
child_first = root_left ∷ (0 ∷ 1 ∷ 1 ∷ 0 ∷ []) ∷ (1 ∷ 2 ∷ 3 ∷ []) ∷ []

abbrev child_last : List (List ℕ)
child_last = root_left ∷ (0 ∷ 1 ∷ 1 ∷ 0 ∷ []) ∷ (2 ∷ 1 ∷ 3 ∷ []) ∷ []

-- domain 0 has its range back
abbrev whole : List (List ℕ)
whole = (0 ∷ 16 ∷ 1 ∷ []) ∷ [] ∷ [] ∷ []

-- domain 1 holds an alias 0 to 16 and a carve 0 to 4 of it
abbrev own_carve : List Call
own_carve = pair ++ (alias 0 1 0 16 3 ∷ send 0 2 0 ∷ carve 1 0 0 4 3 ∷ []) ++ popped

abbrev table : List Case
table =
    -- a domain with nothing
    record { given = pair ++ popped; domains = one_gone; regions = (1 ∷ 0 ∷ 0 ∷ 0 ∷ []) ∷ (0 ∷ 0 ∷ 0 ∷ 0 ∷ []) ∷ (1 ∷ 2 ∷ 3 ∷ []) ∷ []; trackers = whole; queue = [] }
    -- "The Rust fails when a closing domain holds a carve at the start of its own region; ours closes it". Nothing is queued
    ∷ record { given = own_carve; domains = one_gone; regions = child_first; trackers = whole; queue = [] }
    -- "its slots in rising order": the region of slot 0 goes before that of slot 1
    ∷ record { given = pair ++ (alias 0 1 0 8 3 ∷ send 0 2 0 ∷ alias 0 1 8 16 3 ∷ send 0 2 0 ∷ []) ++ popped; domains = one_gone; regions = child_last; trackers = whole; queue = [] }
    -- "and a Management slot closes that domain in turn": domain 2 holds the carve, and goes first, so that domain 1 is given next
    ∷ record { given = chain ++ (alias 0 1 0 16 3 ∷ send 0 2 0 ∷ carve 1 1 0 4 3 ∷ send 1 2 0 ∷ []) ++ popped; domains = two_gone; regions = child_first; trackers = whole; queue = [] }
    -- "though CLEANUP still does"
    ∷ record { given = pair ++ (alias 0 1 4 8 35 ∷ send 0 2 0 ∷ []) ++ popped; domains = one_gone; regions = alias_freed; trackers = whole; queue = cleanup 4 8 ∷ [] }
    -- "A domain is closing from its own turn on": domain 1 has an alias in slot 0 and the Management of domain 2 in slot 1; domain 2 has an alias of the alias,
    -- loses it while slot 0 is revoked, and is queued. Then it is closed: the queue names it by its old generation
    ∷ record {
      given = pair ++ (alias 0 1 0 16 3 ∷ send 0 2 0 ∷ under 1 0 ∷ alias 1 0 0 8 1 ∷ send 1 2 1 ∷ []) ++ popped;
      domains = two_gone;
      regions = child_first;
      trackers = whole;
      queue = permission (dom 2) 0 3 ∷ [];
    }
    -- "parents have their ranges back": domain 0, which is not closing, gains the carve's range and is queued
    ∷ record { given = pair ++ (carve 0 1 4 8 3 ∷ send 0 2 0 ∷ []) ++ popped; domains = one_gone; regions = alias_freed; trackers = whole; queue = permission (dom 0) 0 7 ∷ [] }
    -- "queues nothing": an update of domain 1 that is queued gathers nothing either. It was queued by an alias with READ; the one with READ and WRITE came before
    ∷ record {
      given = pair ++ (alias 0 1 0 8 3 ∷ send 0 2 0 ∷ []) ++ popped ++ (alias 0 1 12 16 1 ∷ send 0 2 0 ∷ []);
      domains = one_gone;
      regions = child_last;
      trackers = whole;
      queue = permission (dom 1) 0 3 ∷ [];
    }
    -- "a RegionRevoke's region likewise if alive": domain 1 has a RegionRevoke of domain 0's alias
    ∷ record {
      given = pair ++ (alias 0 1 0 16 3 ∷ Call.Do (Step.CreateRevokeCapa (dom 0) 2) ∷ send 0 3 0 ∷ []) ++ popped;
      domains = one_gone;
      regions = alias_freed;
      trackers = whole;
      queue = [];
    }
    -- a RegionRevoke of a region that was revoked before: nothing
    ∷ record {
      given = pair ++ (alias 0 1 0 16 3 ∷ Call.Do (Step.CreateRevokeCapa (dom 0) 2) ∷ send 0 3 0 ∷ revoke 2 ∷ []) ++ popped;
      domains = one_gone;
      regions = alias_freed;
      trackers = whole;
      queue = [];
    }
    -- closed, opened again and closed again: "A queued update may name a closed domain by its old generation", and so may two. The Management of the second
    -- life is in slot 2, so that slot 0 holds None in the last revoke
    ∷ record {
      given = pair ++ popped ++ (alias 0 1 0 8 3 ∷ send 0 2 0 ∷ revoke 0 ∷ under 0 0 ∷ alias 0 1 0 8 1 ∷ send 0 3 2 ∷ revoke 2 ∷ []);
      domains = (1 ∷ 0 ∷ 0 ∷ []) ∷ (0 ∷ 2 ∷ 0 ∷ []) ∷ (1 ∷ 2 ∷ []) ∷ [];
      regions = root_left ∷ (0 ∷ 2 ∷ 0 ∷ 0 ∷ []) ∷ (1 ∷ 2 ∷ 3 ∷ []) ∷ [];
      trackers = whole;
      queue = permission (dom 1) 0 7 ∷ permission (again 1) 0 3 ∷ [];
    }
    ∷ []

pub closes : map closed table ≡ table
unfolding computing
closes = refl

-- "its tracker then gains and loses as in any revoke": domain 1 gains the carve's range back before the alias goes, in the record slot that was freed last. With
-- that gain dropped, as in the Rust, all else would be the same, and slot 1 of generation 1
pub closing-gains : (let p = (after own_carve).record_pool in p.gens ∷ p.free ∷ []) ≡ (0 ∷ 2 ∷ 1 ∷ 0 ∷ 0 ∷ 0 ∷ []) ∷ (1 ∷ 2 ∷ 3 ∷ 4 ∷ 5 ∷ []) ∷ []
unfolding computing
closing-gains = refl

-- ---- answers

-- domain 0 revokes the Management in slot 0 after these calls, and is refused
abbrev refused_with : List Call → Refusal → SizedCase
refused_with cs r = gives (z 3 4 4 6 4) cs (revoke 0) (Answer.no r)

-- the root is sent to domain 2, through a channel
abbrev root_below : List Call
root_below = chain ++ (Call.Do (Step.Channel (dom 0) (dom 2)) ∷ send 0 1 2 ∷ [])

-- domain 1 is closed with domain 2, to which domain 0 has a channel in slot 2
abbrev channel_left : List Call
channel_left = chain ++ (Call.Do (Step.Channel (dom 0) (dom 2)) ∷ revoke 0 ∷ [])

abbrev answers : List SizedCase
answers =
    -- "22 where any domain to be closed holds a root": the target, or one below it
    refused_with (pair ++ (send 0 1 0 ∷ [])) holds_root
    ∷ refused_with root_below holds_root
    -- "then 23 where any has a nonzero core map"
    ∷ refused_with (opened 0 ∷ under 0 5 ∷ []) running
    ∷ refused_with (opened 0 ∷ under 0 0 ∷ under 1 5 ∷ []) running
    -- 22 comes first, wherever the root and the core map are
    ∷ refused_with (opened 0 ∷ under 0 5 ∷ root_of 0 16 3 ∷ send 0 1 0 ∷ []) holds_root
    ∷ refused_with (opened 0 ∷ under 0 5 ∷ under 1 0 ∷ Call.Do (Step.Root (dom 2) (access 0 16 3)) ∷ []) holds_root
    -- the manager's own root and core map do not matter
    ∷ gives (z 3 4 4 6 4) (opened 5 ∷ under 0 0 ∷ root_of 0 16 3 ∷ []) (revoke 0) (Answer.yes Value.done)
    -- a core map that was set back
    ∷ gives (z 3 4 4 6 4) (opened 0 ∷ under 0 5 ∷ Call.Do (Step.SetCoreMap (dom 1) 0) ∷ []) (revoke 0) (Answer.yes Value.done)
    -- "10 remains for sending only"
    ∷ gives (z 3 4 4 6 4) (pair ++ (channel ∷ [])) (send 0 0 2) (Answer.no not_carried)
    -- 14 by the second range to be cleaned up
    ∷ gives (z 3 4 4 6 1) (opened 0 ∷ under 0 0 ∷ root_of 0 16 3 ∷ Call.Pop ∷ alias 0 1 0 4 35 ∷ send 0 2 0 ∷ Call.Pop ∷ alias 0 1 8 12 35 ∷ send 0 2 0 ∷ Call.Pop ∷ []) (revoke 0) (Answer.no ring_full)
    -- the closed domain's handle is dead, also when its slot is opened again
    ∷ gives (z 3 4 4 6 4) (pair ++ (revoke 0 ∷ [])) (Call.Do (Step.Root (dom 1) (access 32 48 3))) (Answer.no no_domain)
    ∷ gives (z 3 4 4 6 4) (pair ++ (revoke 0 ∷ [])) (under 0 0) (Answer.yes (Value.domain (again 1)))
    ∷ gives (z 3 4 4 6 4) (pair ++ (revoke 0 ∷ under 0 0 ∷ [])) (Call.Do (Step.Root (dom 1) (access 32 48 3))) (Answer.no no_domain)
    -- "The caller's slot becomes Capa::None, still in use until a sweep"
    ∷ gives (z 3 4 4 6 4) (pair ++ (revoke 0 ∷ [])) channel (passes 2)
    -- a channel to a closed domain: 3 after 5, also when the slot is opened again
    ∷ gives (z 3 4 4 6 4) channel_left (send 0 1 2) (Answer.no no_domain)
    ∷ gives (z 3 5 4 6 4) (channel_left ++ (under 0 0 ∷ under 0 0 ∷ [])) (send 0 1 2) (Answer.no no_domain)
    -- and it is swept when the list is full, with the slot of the revoke before it: slots 0 and 2 are freed, and slot 2 is given
    ∷ gives (z 3 3 4 6 4) channel_left channel (passes 2)
    -- a region that the closed domain's RegionRevoke named is dead
    ∷ gives (z 3 4 4 6 4) (pair ++ (alias 0 1 0 16 3 ∷ Call.Do (Step.CreateRevokeCapa (dom 0) 2) ∷ send 0 3 0 ∷ revoke 0 ∷ [])) (alias 0 2 0 4 1) (Answer.no stale)
    ∷ []

pub close-answers : map answered answers ≡ map (λ x. x.answer) answers
unfolding computing
close-answers = refl
