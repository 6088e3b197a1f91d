-- Lines at the head of a report, passed over.
use Rattle.std.proofs.Common.{◌≡◌, ℕ, ◌++◌, ◌∷◌, List, [], Bool, true, All, refl, sym, ap}
use Rattle.std.proofs.Common.{◌∙◌, subst, arith, append_assoc, codes}
use Rattle.std.specs.Cmp.Derive.{both_true}
use Rattle.std.specs.List.{list_all}
use Rattle.std.proofs.lemmas.Bool.Decides.{nat_tests}
use Rattle.std.proofs.lemmas.List.Elements.{All-append, All-cons, All-head, All-nil, All-tail}
use Rattle.bag_faults.proofs.Spaces.{HasNoSpace, IsNoSpace, field_clean}
use Rattle.bag_faults.specs.FaultLine.{field}
use Rattle.bag_reports.specs.Head.{AreKeys, IsKey, IsUnchecked, head_of, is_visible, unchecked}
use Rattle.bag_reports.specs.Input.{HasNoEnd, HoldsAhead}
use Rattle.bag_reports.specs.Reports.{ReportsState}
use Rattle.bag_reports.proofs.Coming.{ReadsFirst}
use Rattle.bag_reports.proofs.Plain.{IsPlain, field_plain, from_test, no_end}

visible_plain : (key : List ℕ) → IsKey key → All IsPlain key
visible_plain [] is = All-nil IsPlain
visible_plain (byte ∷ key) is =
    All-cons IsPlain byte key (grind (arith, both_true, nat_tests)) (visible_plain key (grind (arith, both_true, nat_tests)))

-- a key has no space
pub visible_clean : (key : List ℕ) → IsKey key → HasNoSpace key
visible_clean [] is = All-nil IsNoSpace
visible_clean (byte ∷ key) is =
    All-cons IsNoSpace byte key (grind (arith, both_true, nat_tests)) (visible_clean key (grind (arith, both_true, nat_tests)))

plain_visible : (xs : List ℕ) → All IsPlain xs → HasNoSpace xs → list_all is_visible xs ≡ true
plain_visible [] plain clean = refl
plain_visible (x ∷ xs) plain clean =
    let range = All-head IsPlain x xs plain in
    let other = All-head IsNoSpace x xs clean in
    let rest = plain_visible xs (All-tail IsPlain x xs plain) (All-tail IsNoSpace x xs clean) in
    grind (arith, nat_tests)

-- a text as a field of a line is one
pub fields_are_keys : (text : List ℕ) → IsKey (field text)
fields_are_keys text = plain_visible (field text) (field_plain text) (field_clean text)

-- its line has one end
pub key_no_end : (key : List ℕ) → IsKey key → HasNoEnd (unchecked key)
key_no_end key is =
    no_end (unchecked key)
    (All-append IsPlain (codes "unchecked ") key (from_test (codes "unchecked ") refl) (visible_plain key is))

-- one line more
pub head_more : (keys : List (List ℕ)) (key : List ℕ)
    → head_of (keys ++ key ∷ []) ≡ head_of keys ++ (unchecked key ++ codes "\n")
head_more [] key = refl
head_more (first ∷ keys) key =
    ap (λ rest. unchecked first ++ 10 ∷ rest) (head_more keys key)
    ∙ sym (append_assoc (unchecked first) (10 ∷ head_of keys) (unchecked key ++ codes "\n"))

pub keys_more : (keys : List (List ℕ)) (key : List ℕ) → AreKeys keys → IsKey key → AreKeys (keys ++ key ∷ [])
keys_more [] key are is = (is, tt)
keys_more (first ∷ keys) key are is = (are.0, keys_more keys key are.1 is)

pub passed_more : (start old new line : List ℕ) (keys : List (List ℕ)) (key : List ℕ) → line ≡ unchecked key
    → old ≡ start ++ head_of keys → new ≡ old ++ (line ++ codes "\n") → new ≡ start ++ head_of (keys ++ key ∷ [])
passed_more start old new line keys key is so_far next =
    next ∙ ap (λ t. t ++ (line ++ codes "\n")) so_far
    ∙ append_assoc start (head_of keys) (line ++ codes "\n")
    ∙ ap (λ l. start ++ (head_of keys ++ (l ++ codes "\n"))) is
    ∙ ap (λ t. start ++ t) (sym (head_more keys key))

pub passed_on : (start old new ended : List ℕ) (keys : List (List ℕ)) → old ≡ start ++ head_of keys
    → new ≡ old ++ ended → new ≡ start ++ (head_of keys ++ ended)
passed_on start old new ended keys so_far next =
    next ∙ ap (λ t. t ++ ended) so_far ∙ append_assoc start (head_of keys) ended

-- Whatever lines were ahead at first, the last of them still are, and the line after them.
abbrev pub Leads : ReportsState → ReportsState → List ℕ → List ℕ → Type 0
Leads start now before passed = (keys : List (List ℕ)) (front rest : List ℕ) → AreKeys keys → HasNoEnd front
    → ¬ (IsUnchecked front) → HoldsAhead start before (head_of keys ++ (front ++ 10 ∷ rest))
    → (later : List (List ℕ)) × AreKeys later × HoldsAhead now passed (head_of later ++ (front ++ 10 ∷ rest))

pub leads_first : (start : ReportsState) (before : List ℕ) → Leads start start before before
leads_first start before keys front rest are plain other ahead = (keys, are, ahead)

abbrev IsNextKey : ReportsState → List ℕ → List ℕ → List (List ℕ) → List ℕ → List ℕ → Type 0
IsNextKey new passed line [] front rest = (line ≡ front) × HoldsAhead new passed rest
IsNextKey new passed line (key ∷ more) front rest =
    (line ≡ unchecked key) × IsKey key × AreKeys more × HoldsAhead new passed (head_of more ++ (front ++ 10 ∷ rest))

next_key : (now new : ReportsState) (passed passed' line : List ℕ) (has_end : Bool) (later : List (List ℕ))
    (front rest : List ℕ) → ReadsFirst now passed new passed' line has_end → AreKeys later → HasNoEnd front
    → HoldsAhead now passed (head_of later ++ (front ++ 10 ∷ rest))
    → (has_end ≡ true) × IsNextKey new passed' line later front rest
next_key now new passed passed' line has_end [] front rest reads are plain ahead =
    let first = reads front rest plain ahead in (first.0, (first.1, first.2))
next_key now new passed passed' line has_end (key ∷ more) front rest reads are plain ahead =
    let behind = head_of more ++ (front ++ 10 ∷ rest) in
    let first = reads (unchecked key) behind (key_no_end key are.0)
    (subst (λ text. HoldsAhead now passed text) (append_assoc (unchecked key) (10 ∷ head_of more) (front ++ 10 ∷ rest))
    ahead) in
    (first.0, (first.1, are.0, are.1, first.2))

one_key_less : (new : ReportsState) (passed' line : List ℕ) (later : List (List ℕ)) (front rest : List ℕ)
    → ¬ (IsUnchecked front) → IsUnchecked line → IsNextKey new passed' line later front rest
    → (more : List (List ℕ)) × AreKeys more × HoldsAhead new passed' (head_of more ++ (front ++ 10 ∷ rest))
one_key_less new passed' line [] front rest other is next = absurd (other (subst IsUnchecked next.0 is))
one_key_less new passed' line (key ∷ more) front rest other is next = (more, next.2, next.3)

pub leads_more : (start now new : ReportsState) (before passed passed' line : List ℕ) (has_end : Bool)
    → Leads start now before passed → ReadsFirst now passed new passed' line has_end → IsUnchecked line
    → Leads start new before passed'
leads_more start now new before passed passed' line has_end leads reads is keys front rest are plain other ahead =
    let here = leads keys front rest are plain other ahead in
    let next = next_key now new passed passed' line has_end here.0 front rest reads here.1 plain here.2 in
    one_key_less new passed' line here.0 front rest other is next.1

no_key_more : (new : ReportsState) (passed' line : List ℕ) (later : List (List ℕ)) (front rest : List ℕ)
    → ¬ (IsUnchecked line) → IsNextKey new passed' line later front rest
    → (line ≡ front) × HoldsAhead new passed' rest
no_key_more new passed' line [] front rest none next = (next.0, next.1)
no_key_more new passed' line (key ∷ more) front rest none next = absurd (none (key, next.1, next.0))

-- the first other line is the one after all of them
pub leads_last : (start now new : ReportsState) (before passed passed' line : List ℕ) (has_end : Bool)
    → Leads start now before passed → ReadsFirst now passed new passed' line has_end → ¬ (IsUnchecked line)
    → (keys : List (List ℕ)) (front rest : List ℕ) → AreKeys keys → HasNoEnd front
    → ¬ (IsUnchecked front) → HoldsAhead start before (head_of keys ++ (front ++ 10 ∷ rest))
    → (line ≡ front) × HoldsAhead new passed' rest
leads_last start now new before passed passed' line has_end leads reads none keys front rest are plain other ahead =
    let here = leads keys front rest are plain other ahead in
    let next = next_key now new passed passed' line has_end here.0 front rest reads here.1 plain here.2 in
    no_key_more new passed' line here.0 front rest none next.1

-- and it has an end
pub leads_on : (start now new : ReportsState) (before passed passed' line : List ℕ) (has_end : Bool)
    → Leads start now before passed → ReadsFirst now passed new passed' line has_end
    → (keys : List (List ℕ)) (front rest : List ℕ) → AreKeys keys → HasNoEnd front
    → ¬ (IsUnchecked front) → HoldsAhead start before (head_of keys ++ (front ++ 10 ∷ rest)) → has_end ≡ true
leads_on start now new before passed passed' line has_end leads reads keys front rest are plain other ahead =
    let here = leads keys front rest are plain other ahead in
    (next_key now new passed passed' line has_end here.0 front rest reads here.1 plain here.2).0
