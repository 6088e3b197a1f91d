-- The report above a cursor, one source after another.
use Rattle.bag_sources.proofs.Common.{◌≡◌, ◌<◌, ◌≤◌, ◌+◌, ◌++◌, ◌⊎◌, inl, inr, ℕ, List, [], Option, Contains, true}
use Rattle.bag_sources.proofs.Common.{false, sym, ◌∙◌, subst, append_assoc, arith, stage, IsListOf, Code}
use Rattle.bag_sources.proofs.Common.{contains_either, contains_nothing, joined, nothing_listed, same_members, fault_cmp}
use Rattle.bag_sources.proofs.Common.{Fault, Check, above, is_above, IsReported, IsStageOf, filtered_list, IsStageAbove}
use Rattle.bag_sources.proofs.Common.{NoFaultBefore, AllBelow, AreAheadBefore, IsAhead, cases_lt, Bool, true≢false, refl}
use Rattle.bag_sources.proofs.Common.{ap, filter, if◌then◌else◌, is_payload_path, text_cmp, Payload, Tag, Bag, Names}
use Rattle.bag_sources.proofs.Common.{names_by_kind, IsListedToOpen, IsToOpen, IsTrue}
use Rattle.bag_sources.proofs.Chosen.{less_by_stage}

-- no stage has the number 0, or one above 8
from_one : (c : Code) → 1 ≤ stage c
from_one c = grind arith

pub none_to_open : (faults : List Fault) → NoFaultBefore faults []
none_to_open faults f path c d = absurd (contains_nothing path d)

module _ (check : Check) (after : Option Fault) where
  -- a fault of the report that stands above the cursor, of a stage before this one, and of this one
  abbrev IsAheadBefore : ℕ → Fault → Type 0
  IsAheadBefore k f = IsAhead check after f × (stage f.code < k)

  abbrev IsAt : ℕ → Fault → Type 0
  IsAt k f = (IsReported check f × (stage f.code ≡ k)) × (is_above after f ≡ true)

  pub stage_ahead : (k : ℕ) (found : List Fault) → IsStageOf check k found
      → IsStageAbove check k after (above after found)
  stage_ahead k found list = filtered_list fault_cmp _ (is_above after) found list

  pub none_before : AreAheadBefore check 1 after []
  none_before =
      nothing_listed fault_cmp (IsAheadBefore 1) (λ f h.
      let one : 1 ≤ stage f.code = from_one f.code in absurd (omega (arith, one, h.1)))

  before_or_at : (k : ℕ) (f : Fault) → IsAheadBefore (k + 1) f → IsAheadBefore k f ⊎ IsAt k f
  before_or_at k f h =
      elim (cases_lt (stage f.code) k)
      [ inl less ↦ inl (h.0, less) | inr past ↦ inr ((h.0.0, omega (arith, past, h.1)), h.0.1) ]

  pub one_stage_more : (k : ℕ) (faults more : List Fault) → AreAheadBefore check k after faults
      → IsStageAbove check k after more → AreAheadBefore check (k + 1) after (faults ++ more)
  one_stage_more k faults more before at =
      same_members fault_cmp (λ f. IsAheadBefore k f ⊎ IsAt k f) (IsAheadBefore (k + 1)) (faults ++ more)
      (λ f h. elim h [
        | inl less ↦ (less.0, omega (arith, less.1))
        | inr now ↦ ((now.0.0, now.1), omega (arith, now.0.1))
      ])
      (before_or_at k)
      (joined fault_cmp (IsAheadBefore k) (IsAt k) faults more before at (λ x y less now.
      less_by_stage x y (omega (arith, less.1, now.0.1))))

-- what the three sources hold of some faults
pub record Hold (IsOne : Fault → Type 0) (early sums late : List Fault) : Type 0 where
  pub first : IsListOf fault_cmp (λ f. IsOne f × (stage f.code < 7)) early
  pub seventh : IsListOf fault_cmp (λ f. IsOne f × (stage f.code ≡ 7)) sums
  pub eighth : IsListOf fault_cmp (λ f. IsOne f × (stage f.code ≡ 8)) late

-- no stage has a number above 8
to_eight : (c : Code) → stage c < 9
to_eight c = grind arith

-- those of one stage more
next_stage : (IsOne : Fault → Type 0) (k : ℕ) (faults more : List Fault)
    → IsListOf fault_cmp (λ f. IsOne f × (stage f.code < k)) faults
    → IsListOf fault_cmp (λ f. IsOne f × (stage f.code ≡ k)) more
    → IsListOf fault_cmp (λ f. IsOne f × (stage f.code < k + 1)) (faults ++ more)
next_stage IsOne k faults more before at =
    same_members fault_cmp (λ f. (IsOne f × (stage f.code < k)) ⊎ (IsOne f × (stage f.code ≡ k)))
    (λ f. IsOne f × (stage f.code < k + 1)) (faults ++ more)
    (λ f h. elim h [ inl less ↦ (less.0, omega (arith, less.1)) | inr now ↦ (now.0, omega (arith, now.1)) ])
    (λ f h. elim (cases_lt (stage f.code) k)
    [ inl less ↦ inl (h.0, less) | inr past ↦ inr (h.0, omega (arith, past, h.1)) ])
    (joined fault_cmp (λ f. IsOne f × (stage f.code < k)) (λ f. IsOne f × (stage f.code ≡ k)) faults more before at
    (λ x y less now. less_by_stage x y (omega (arith, less.1, now.1))))

module _ {IsOne : Fault → Type 0} {early sums late : List Fault} (all : Hold IsOne early sums late) where
  from_seven : (f : Fault) → Contains (sums ++ late) f → 7 ≤ stage f.code
  from_seven f c = elim (contains_either sums late f c) [
    | inl a ↦ omega (arith, ((all.seventh.members f).0 a).1)
    | inr b ↦ omega (arith, ((all.eighth.members f).0 b).1)
  ]

  pub early_below : AllBelow early (sums ++ late)
  early_below f g c d = less_by_stage f g (omega (arith, ((all.first.members f).0 c).1, from_seven g d))

  pub sums_below : AllBelow sums late
  sums_below f g c d =
      less_by_stage f g (omega (arith, ((all.seventh.members f).0 c).1, ((all.eighth.members g).0 d).1))

  -- no fault of the last stage stands before a file
  pub late_behind : (paths : List (List ℕ)) → NoFaultBefore late paths
  late_behind paths f path c d before = grind (arith, (all.eighth.members f).0 c)

  -- together they are all of them
  pub all_joined : IsListOf fault_cmp IsOne (early ++ (sums ++ late))
  all_joined =
      let seven = next_stage IsOne 7 early sums all.first all.seventh in
      let eight = next_stage IsOne 8 (early ++ sums) late seven all.eighth in
      subst (IsListOf fault_cmp IsOne) (append_assoc early sums late)
      (same_members fault_cmp (λ f. IsOne f × (stage f.code < 9)) IsOne ((early ++ sums) ++ late)
      (λ f h. h.0) (λ f h. (h, to_eight f.code)) eight)

-- what the sources of a walk hold together
module _ (check : Check) (after : Option Fault) where
  -- of the payload those that payload manifests name
  pub payload_to_open : (paths : List (List ℕ)) → IsListOf text_cmp (IsToOpen check after) paths
      → IsListOf text_cmp (IsListedToOpen check after) (filter is_payload_path paths)
  payload_to_open paths list =
      same_members text_cmp (λ path. IsToOpen check after path × (is_payload_path path ≡ true))
      (IsListedToOpen check after) (filter is_payload_path paths)
      (λ path h. let named = h.0.1.1 in
      let kind : named.0 ≡ Payload =
      names_by_kind check.bag named.0 named.1 path named.2 ∙ ap (λ is. if is then Payload else Tag) h.1 in
      (h.0.0, h.1, h.0.1.0, (named.1, subst (λ k. Names check.bag k named.1 path) kind named.2), h.0.2))
      (λ path h. ((h.0, (h.2, (Payload, h.3.0, h.3.1)), h.4), h.1))
      (filtered_list text_cmp (IsToOpen check after) is_payload_path paths list)

-- an honest tree's bag, or another one
pub seen_of : (P : Bag → Type 0) (honest : Bool) (held : Bag) → (IsTrue honest → P held) → ((bag : Bag) × P bag)
    → (bag : Bag) × (IsTrue honest → bag ≡ held) × P bag
seen_of P true held of_held other = (held, (λ is. refl), of_held refl)
seen_of P false held of_held other = (other.0, (λ is. absurd (true≢false (sym is))), other.1)
