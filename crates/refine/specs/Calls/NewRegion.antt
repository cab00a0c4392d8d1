-- What root, alias and carve share. Between the new region and the trackers' step the trackers store what the regions were before (`TrackersAgreeWith`), so that no
-- count is near the end of a word.
use Rattle.model.specs.State.{State}
use Rattle.laws.specs.Keep.Agreement.{TrackersAgreeWith, TrackersAgree}
use Rattle.laws.specs.Keep.Base.{Base}
use Rattle.refine.specs.Tree.RegionSteps.{ChildrenLive}
use Rattle.refine.specs.Calls.Bounds.{Bounded, counts-formed}

pub agree-children : (s : State) → TrackersAgree s → ChildrenLive s.regions
agree-children s g p h e = (g.regions p h e).children_live

-- trackers that store what sound regions were can follow
pub agree-bounded : (s t : State) → Base s → TrackersAgreeWith s.regions t → Base t → Bounded 1024 t
agree-bounded s t k b j = (j, counts-formed s t k b.tracked)
