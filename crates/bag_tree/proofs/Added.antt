-- What is added to a trail.
use Rattle.std.proofs.Common.{◌≡◌, ◌++◌, ◌∷◌, List, [], sym, ◌∙◌, append-nil}
use Rattle.bag_tree.proofs.Events.{sync_alone}
use Rattle.bag_tree.specs.Asked.{Adds, Asking, AsksSyncs, IsSync}
use Rattle.bag_tree.specs.declared.event.DeviceEvent.{DeviceEvent}

-- nothing
pub nothing_added : (P : Asking) (before after : List DeviceEvent) → after ≡ before → P before [] → Adds P before after
nothing_added P before after same none = record { now = []; trail = same ∙ sym (append-nil before); is = none }

-- syncs
pub no_syncs : (trail : List DeviceEvent) → Adds AsksSyncs trail trail
no_syncs trail = record { now = []; trail = sym (append-nil trail); is = tt }

pub one_sync : (e : DeviceEvent) → IsSync e → (before after : List DeviceEvent) → after ≡ before ++ e ∷ []
    → Adds AsksSyncs before after
one_sync e is before after added = record { now = e ∷ []; trail = added; is = (sync_alone e is, tt) }

pub same_syncs : (a b c : List DeviceEvent) → Adds AsksSyncs a b → c ≡ b → Adds AsksSyncs a c
same_syncs a b c so_far same = record { now = so_far.now; trail = same ∙ so_far.trail; is = so_far.is }
