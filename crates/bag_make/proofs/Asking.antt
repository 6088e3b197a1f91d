-- What steps ask of the device, one after another.
use Rattle.bag_make.proofs.Common.{arith, ◌≡◌, ◌++◌, ◌∷◌, ◌<◌, ◌⊎◌, ℕ, zero, suc, inl, inr, List, [], take, length}
use Rattle.bag_make.proofs.Common.{get_or, refl, sym, ap, ◌∙◌, subst, append-nil, append_assoc, Adds, Asking, Step}
use Rattle.bag_make.proofs.Common.{StepAsks, RefusedAsks, AllAsk}
use Rattle.bag_tree.specs.declared.event.DeviceEvent.{DeviceEvent}

-- these steps were taken up to one that was refused
abbrev pub SomeAsk : List Step → Asking
SomeAsk [] before events = events ≡ []
SomeAsk (step ∷ steps) before events =
    RefusedAsks step before events
    ⊎ ((now : List DeviceEvent) × (later : List DeviceEvent) × (events ≡ now ++ later) × StepAsks step before now
    × SomeAsk steps (before ++ now) later)

-- all of these, and one more
all_and_one : (steps : List Step) (step : Step) (before es now : List DeviceEvent) → AllAsk steps before es
    → StepAsks step (before ++ es) now → AllAsk (steps ++ step ∷ []) before (es ++ now)
all_and_one [] step before es now none asks = (
  now,
  [],
  ap (λ (xs : List DeviceEvent). xs ++ now) none
      ∙ sym (append-nil now),
  subst (λ (xs : List DeviceEvent). StepAsks step xs now)
      (ap (λ (xs : List DeviceEvent). before ++ xs) none ∙ append-nil before) asks,
  refl,
)
all_and_one (s ∷ steps) step before es now (first, later, is, asked, rest) asks = (
  first,
  later ++ now,
  ap (λ (xs : List DeviceEvent). xs ++ now) is ∙ append_assoc first later now,
  asked,
  all_and_one steps step (before ++ first) later now rest
      (subst (λ (xs : List DeviceEvent). StepAsks step xs now)
      (ap (λ (xs : List DeviceEvent). before ++ xs) is ∙ sym (append_assoc before first later)) asks),
)

-- the first of these, up to one that is refused
first_refused : (steps : List Step) (k : ℕ) (step : Step) (before es now : List DeviceEvent) → k < length steps
    → step ≡ get_or steps k step → AllAsk (take k steps) before es → RefusedAsks step (before ++ es) now
    → SomeAsk steps before (es ++ now)
first_refused [] k step before es now within at asked asks = absurd (omega arith)
first_refused (s ∷ steps) zero step before es now within at none asks =
    inl (subst (λ (xs : List DeviceEvent). RefusedAsks s before xs)
    (sym (ap (λ (xs : List DeviceEvent). xs ++ now) none))
    (subst (λ (x : Step). RefusedAsks x before now) at
    (subst (λ (xs : List DeviceEvent). RefusedAsks step xs now)
    (ap (λ (xs : List DeviceEvent). before ++ xs) none ∙ append-nil before) asks)))
first_refused (s ∷ steps) (suc k) step before es now within at (first, later, is, asked, rest) asks =
    inr (
      first,
      later ++ now,
      ap (λ (xs : List DeviceEvent). xs ++ now) is ∙ append_assoc first later now,
      asked,
      first_refused steps k step (before ++ first) later now (omega arith) at rest
          (subst (λ (xs : List DeviceEvent). RefusedAsks step xs now)
          (ap (λ (xs : List DeviceEvent). before ++ xs) is ∙ sym (append_assoc before first later)) asks),
    )

pub all_is_some : (steps : List Step) (before es : List DeviceEvent) → AllAsk steps before es → SomeAsk steps before es
all_is_some [] before es is = is
all_is_some (s ∷ steps) before es (first, later, is, asked, rest) =
    inr (first, later, is, asked, all_is_some steps (before ++ first) later rest)

pub adds_one : (steps : List Step) (step : Step) (old mid new : List DeviceEvent) → Adds (AllAsk steps) old mid
    → Adds (StepAsks step) mid new → Adds (AllAsk (steps ++ step ∷ [])) old new
adds_one steps step old mid new so_far one = record {
  now = so_far.now ++ one.now;
  trail = one.trail ∙ ap (λ (xs : List DeviceEvent). xs ++ one.now) so_far.trail ∙ append_assoc old so_far.now one.now;
  is =
      all_and_one steps step old so_far.now one.now so_far.is
      (subst (λ (xs : List DeviceEvent). StepAsks step xs one.now) so_far.trail one.is);
}

pub adds_refused : (steps : List Step) (k : ℕ) (step : Step) (old mid new : List DeviceEvent) → k < length steps
    → step ≡ get_or steps k step → Adds (AllAsk (take k steps)) old mid → Adds (RefusedAsks step) mid new
    → Adds (SomeAsk steps) old new
adds_refused steps k step old mid new within at so_far one = record {
  now = so_far.now ++ one.now;
  trail = one.trail ∙ ap (λ (xs : List DeviceEvent). xs ++ one.now) so_far.trail ∙ append_assoc old so_far.now one.now;
  is =
      first_refused steps k step old so_far.now one.now within at so_far.is
      (subst (λ (xs : List DeviceEvent). RefusedAsks step xs one.now) so_far.trail one.is);
}

pub none_added : (old : List DeviceEvent) → Adds (AllAsk []) old old
none_added old = record { now = []; trail = sym (append-nil old); is = refl }
