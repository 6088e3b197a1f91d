-- How a run of events goes on.
use Rattle.std.proofs.Common.{◌≡◌, ◌++◌, inl, inr, ⊎_elim, false, List, [], ◌∷◌, ◌⊎◌, refl, sym, ◌∙◌, subst, append-nil}
use Rattle.std.proofs.Common.{append_assoc, map}
use Rattle.std.proofs.lemmas.Bool.{false_from_ne_true, false≢true}
use Rattle.bag_tree.proofs.Events.{done_nothing, durable_front, nothing_is_lost, nothing_undone, sync_alone}
use Rattle.bag_tree.specs.Asked.{AreSyncs, ChangeNothing}
use Rattle.bag_tree.specs.Bag.{Bag}
use Rattle.bag_tree.specs.Cut.{IsLost, IsPart, MayBecome, MayLeave, done, is_durable}
use Rattle.bag_tree.specs.declared.event.DeviceEvent.{DeviceEvent}

-- What is left after these events has Q, by the events that come later: and at each moment it had P.
pub record Reaches (P : Bag → Type 0) (bag : Bag) (trail : List DeviceEvent)
    (Q : List DeviceEvent → Bag → Type 0) : Type 0 where
  pub each : (before after : List DeviceEvent) → trail ≡ before ++ after → (left : Bag) → MayLeave before bag left
      → P left
  pub on : (later : List DeviceEvent) (left : Bag) → MayLeave (trail ++ later) bag left
      → (d : Bag) × Q later d × MayLeave later d left
  pub whole : (later : List DeviceEvent) (d : Bag) → Q later d → P d

nothing_after : (before after : List DeviceEvent) → [] ≡ before ++ after → before ≡ []
nothing_after [] after e = refl
nothing_after (x ∷ before) after e = cc

-- a front of some events and one more is all of them, or a front of those
split_last : (trail before after : List DeviceEvent) (e : DeviceEvent) → trail ++ e ∷ [] ≡ before ++ after
    → (before ≡ trail ++ e ∷ []) ⊎ ((rest : List DeviceEvent) × (trail ≡ before ++ rest))
split_last trail [] after e is = inr (trail, refl)
split_last [] (x ∷ before) after e is =
    let none : [] ≡ before ++ after = cc in
    let empty = nothing_after before after none in
    let first : x ≡ e = cc in
    inl (λ i. first i ∷ empty i)
split_last (y ∷ trail) (x ∷ before) after e is =
    let same : x ≡ y = cc in
    let rest_is : trail ++ e ∷ [] ≡ before ++ after = cc in
    ⊎_elim (λ all. inl (λ i. same i ∷ all i)) (λ front. inr (front.0, λ i. sym same i ∷ front.1 i))
    (split_last trail before after e rest_is)

pub both_nothing : (es fs : List DeviceEvent) → ChangeNothing es → ChangeNothing fs → ChangeNothing (es ++ fs)
both_nothing [] fs one two = two
both_nothing (e ∷ es) fs one two = (one.0, both_nothing es fs one.1 two)

-- the first of some writes are writes
pub front_of_map : {A : Type 0} (f : A → DeviceEvent) (xs : List A) (front rest : List DeviceEvent)
    → map f xs ≡ front ++ rest → (ys : List A) × (front ≡ map f ys)
front_of_map f xs [] rest is = ([], refl)
front_of_map f [] (e ∷ front) rest is = cc
front_of_map f (x ∷ xs) (e ∷ front) rest is =
    let same : e ≡ f x = cc in
    let rest_is : map f xs ≡ front ++ rest = cc in
    let more = front_of_map f xs front rest rest_is in (x ∷ more.0, λ i. same i ∷ more.1 i)

pub syncs_alone : (es : List DeviceEvent) → AreSyncs es → ChangeNothing es
syncs_alone [] are = tt
syncs_alone (e ∷ es) are = (sync_alone e are.0, syncs_alone es are.1)

module _ {P : Bag → Type 0} {bag : Bag} where
  -- before the first
  pub started : (Q : List DeviceEvent → Bag → Type 0) → ((later : List DeviceEvent) → Q later bag)
      → ((later : List DeviceEvent) (d : Bag) → Q later d → P d) → Reaches P bag [] Q
  started Q here whole = record {
    each = λ before after is left may.
        whole [] left (subst (Q []) (sym (subst (λ es. MayLeave es bag left) (nothing_after before after is) may))
        (here []));
    on = λ later left may. (bag, here later, may);
    whole = whole;
  }

  -- one event more
  pub one_more : (trail : List DeviceEvent) (Q R : List DeviceEvent → Bag → Type 0) (e : DeviceEvent)
      → Reaches P bag trail Q
      → ((later : List DeviceEvent) (d : Bag) → Q (e ∷ later) d → R later (done e d))
      → ((later : List DeviceEvent) (d part : Bag) → Q (e ∷ later) d → is_durable e later ≡ false → IsPart e d part
      → R later part)
      → ((later : List DeviceEvent) (d left : Bag) → Q (e ∷ later) d → IsLost e d left → R later left)
      → ((later : List DeviceEvent) (d : Bag) → R later d → P d)
      → Reaches P bag (trail ++ e ∷ []) R
  one_more trail Q R e so_far made part lost whole = record { each = each; on = on; whole = whole }
    where
      becomes : (later : List DeviceEvent) (d next : Bag) → Q (e ∷ later) d → MayBecome e later d next → R later next
      becomes later d next q (inl is) = subst (R later) (sym is) (made later d q)
      becomes later d next q (inr (inl (missing, is))) = part later d next q missing is
      becomes later d next q (inr (inr is)) = lost later d next q is

      on : (later : List DeviceEvent) (left : Bag) → MayLeave ((trail ++ e ∷ []) ++ later) bag left
          → (d : Bag) × R later d × MayLeave later d left
      on later left may =
          let from =
          so_far.on (e ∷ later) left (subst (λ es. MayLeave es bag left) (append_assoc trail (e ∷ []) later) may) in
          (from.2.0, becomes later from.0 from.2.0 from.1 from.2.1, from.2.2)

      each : (before after : List DeviceEvent) → trail ++ e ∷ [] ≡ before ++ after → (left : Bag)
          → MayLeave before bag left → P left
      each before after is left may = ⊎_elim
          (λ all. let from = on [] left
          (subst (λ es. MayLeave es bag left) (all ∙ sym (append-nil (trail ++ e ∷ []))) may)
          in subst P (sym from.2) (whole [] from.0 from.1))
          (λ front. so_far.each before front.0 front.1 left may)
          (split_last trail before after e is)

  pub weaker : (trail : List DeviceEvent) (Q R : List DeviceEvent → Bag → Type 0) → Reaches P bag trail Q
      → ((later : List DeviceEvent) (d : Bag) → Q later d → R later d)
      → ((later : List DeviceEvent) (d : Bag) → R later d → P d) → Reaches P bag trail R
  weaker trail Q R so_far more whole = record {
    each = so_far.each;
    on = λ later left may. let from = so_far.on later left may in (from.0, more later from.0 from.1, from.2);
    whole = whole;
  }

  -- events that change nothing
  pub unchanged : (es trail : List DeviceEvent) (Q : List DeviceEvent → Bag → Type 0) → Reaches P bag trail Q
      → ChangeNothing es → Reaches P bag (trail ++ es) (λ later d. Q (es ++ later) d)
  unchanged [] trail Q so_far are = subst (λ t. Reaches P bag t Q) (sym (append-nil trail)) so_far
  unchanged (e ∷ es) trail Q so_far are =
      let one = one_more trail Q (λ later d. Q (e ∷ later) d) e so_far
      (λ later d q. subst (Q (e ∷ later)) (sym (done_nothing e d are.0)) q)
      (λ later d part q missing is. absurd (nothing_undone e later are.0 missing))
      (λ later d left q lost. absurd (nothing_is_lost e d left are.0 lost))
      (λ later d q. so_far.whole (e ∷ later) d q) in
      subst (λ t. Reaches P bag t (λ later d. Q (e ∷ (es ++ later)) d)) (append_assoc trail (e ∷ []) es)
      (unchanged es (trail ++ e ∷ []) (λ later d. Q (e ∷ later) d) one are.1)

  pub synced : (es trail : List DeviceEvent) (Q : List DeviceEvent → Bag → Type 0) → Reaches P bag trail Q → AreSyncs es
      → Reaches P bag (trail ++ es) (λ later d. Q (es ++ later) d)
  synced es trail Q so_far are = unchanged es trail Q so_far (syncs_alone es are)

-- what is left after some events was left after the first of them, and then after the others
pub left_between : (front back : List DeviceEvent) (first left : Bag) → MayLeave (front ++ back) first left
    → (d : Bag) × MayLeave front first d × MayLeave back d left
left_between [] back first left may = (first, refl, may)
left_between (e ∷ front) back first left (next, becomes, may) =
    let more = left_between front back next left may in (more.0, (next, sooner becomes, more.1), more.2)
  where
    sooner : MayBecome e (front ++ back) first next → MayBecome e front first next
    sooner (inl all) = inl all
    sooner (inr (inl (missing, part))) =
        inr (inl (
          false_from_ne_true _ (λ durable. false≢true (sym missing ∙ durable_front e front back durable)),
          part,
        ))
    sooner (inr (inr lost)) = inr (inr lost)

-- nothing is left of events that change nothing but what was there
pub nothing_left : (es : List DeviceEvent) (bag left : Bag) → ChangeNothing es → MayLeave es bag left → left ≡ bag
nothing_left [] bag left are may = may
nothing_left (e ∷ es) bag left are (next, becomes, may) =
    nothing_left es next left are.1 may ∙ same becomes
  where
    same : MayBecome e es bag next → next ≡ bag
    same (inl all) = all ∙ done_nothing e bag are.0
    same (inr (inl (missing, part))) = absurd (nothing_undone e es are.0 missing)
    same (inr (inr lost)) = absurd (nothing_is_lost e bag next are.0 lost)

-- a front of two runs of events is a front of the first, or that and a front of the second
pub front_of_two : (one two front back : List DeviceEvent) → one ++ two ≡ front ++ back
    → ((rest : List DeviceEvent) × (one ≡ front ++ rest))
    ⊎ ((more : List DeviceEvent) × (rest : List DeviceEvent) × (front ≡ one ++ more) × (two ≡ more ++ rest))
front_of_two one two [] back is = inl (one, refl)
front_of_two [] two (x ∷ front) back is = inr (x ∷ front, back, refl, is)
front_of_two (y ∷ one) two (x ∷ front) back is =
    let same : x ≡ y = cc in
    let rest_is : one ++ two ≡ front ++ back = cc in
    ⊎_elim (λ a. inl (a.0, λ i. sym same i ∷ a.1 i)) (λ b. inr (b.0, b.1, (λ i. same i ∷ b.2 i), b.3))
    (front_of_two one two front back rest_is)

pub first_change_nothing : (more rest : List DeviceEvent) → ChangeNothing (more ++ rest) → ChangeNothing more
first_change_nothing [] rest are = tt
first_change_nothing (e ∷ more) rest are = (are.0, first_change_nothing more rest are.1)
