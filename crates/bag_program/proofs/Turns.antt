-- What is done for names one after another.
use Rattle.bag_program.proofs.Common.{◌≡◌, inl, inr, ◌+◌, ◌∷◌, ◌++◌, ◌≤◌, ◌<◌, ℕ, List, [], Option, refl, ap, ◌∙◌, arith}
use Rattle.bag_program.proofs.Common.{max, length, drop, get_or, append_assoc, append-nil, drop_all, drop_more, MatchOption}
use Rattle.bag_program.proofs.Common.{unwrap_or, OutState, Event, AreInTurn, HasVisited, Last, Whole}

-- ---- visits

-- some, and more after them
pub added : (start mid new so_far own : List Event) → mid ≡ start ++ so_far → new ≡ mid ++ own
    → new ≡ start ++ (so_far ++ own)
added start mid new so_far own before then = then ∙ ap (λ mid. mid ++ own) before ∙ append_assoc start so_far own

-- ---- statuses

-- what is done in turn has a status, where what is whole has one
pub turns_status : (Ends : Last) (Goes : Whole)
    → ((name : List ℕ) (before after : OutState) (visits : List Event) (n : ℕ) → Goes name before after visits n
    → n ≤ 3)
    → (names : List (List ℕ)) (before after : OutState) (visits : List Event) (n : ℕ)
    → AreInTurn Ends Goes names before after visits n → n ≤ 3
turns_status Ends Goes statuses [] before after visits n turns = omega (arith, turns.0)
turns_status Ends Goes statuses (name ∷ names) before after visits n (inl last) = omega (arith, last.0)
turns_status Ends Goes statuses (name ∷ names) before after visits n (inr on) =
    let one = statuses name before on.mid on.own on.first on.whole in
    let others = turns_status Ends Goes statuses names on.mid after on.later on.rest on.others in
    omega (arith, on.greatest, one, others)

-- ---- one after another

-- one alone
pub only_one : (Ends : Last) (Goes : Whole) (name : List ℕ) (before after : OutState) (visits : List Event)
    (next : Option ℕ)
    → MatchOption next (Ends name before after visits) (λ n. Goes name before after visits n)
    → AreInTurn Ends Goes (name ∷ []) before after visits (unwrap_or next 3)
only_one Ends Goes name before after visits next last = grind (arith, append-nil)

-- ---- a loop over names

-- Done so far for the first i of these names, with these visits since a start: whatever is done for the others, with it
-- this is all.
pub record Looped (Ends : Last) (Goes : Whole) (names : List (List ℕ)) (start : List Event) (before : OutState) (i : ℕ)
    (now : OutState) (visits : List Event) (greatest : ℕ) : Type 0 where
  pub with_others : (after : OutState) (left : List Event) (n : ℕ) → AreInTurn Ends Goes (drop i names) now after left n
      → HasVisited start (visits ++ left) (λ own. AreInTurn Ends Goes names before after own (max greatest n))

-- nothing done yet
pub none_yet : {Ends : Last} {Goes : Whole} {names : List (List ℕ)} {start : List Event} {before : OutState}
    → Looped Ends Goes names start before 0 before start 0
none_yet = grind arith

module _ {Ends : Last} {Goes : Whole} {names : List (List ℕ)} {start visits : List Event} {before now : OutState} {i
    greatest : ℕ} (looped : Looped Ends Goes names start before i now visits greatest) where
  -- all were whole
  pub looped_all : length names ≤ i → HasVisited start visits (λ own. AreInTurn Ends Goes names before now own greatest)
  looped_all le =
      let most : max greatest 0 ≡ greatest = omega arith in
      rw (append-nil visits, most) at (looped.with_others now [] 0 (rw (drop_all i names le) (refl, refl, refl)))

  module _ {name : List ℕ} (lt : i < length names) (is : name ≡ get_or names i name) where
    -- with what is done from the next name on
    onward : (new own : List Event) (after : OutState) (n m : ℕ) → new ≡ visits ++ own → m ≡ max greatest n
        → AreInTurn Ends Goes (name ∷ drop (i + 1) names) now after own n
        → HasVisited start new (λ own. AreInTurn Ends Goes names before after own m)
    onward new own after n m visited most turns =
        rw (visited, most) (looped.with_others after own n (rw (drop_more names i name lt, ← is) turns))

    -- one more, which is whole
    pub looped_more : {next : OutState} {new : List Event} {m : ℕ} (own : List Event) (n : ℕ) → m ≡ max greatest n
        → new ≡ visits ++ own → Goes name now next own n
        → Looped Ends Goes names start before (i + 1) next new m
    looped_more {next} {new} {m} own n most visited whole = record {
      with_others = λ after left k others.
          onward (new ++ left) (own ++ left) after (max n k) (max m k)
          (ap (λ v. v ++ left) visited ∙ append_assoc visits own left) (omega (arith, most))
          (inr (record {
            mid = next;
            own = own;
            later = left;
            first = n;
            rest = k;
            parts = refl;
            whole = whole;
            others = others;
            greatest = refl;
          }));
    }

    -- the last
    pub looped_last : (new own : List Event) (after : OutState) → greatest ≤ 3 → new ≡ visits ++ own
        → Ends name now after own → HasVisited start new (λ own. AreInTurn Ends Goes names before after own 3)
    looped_last new own after most visited last = onward new own after 3 3 visited (omega arith) (inl (refl, last))
