-- Lines that end where they are said to.
use Rattle.std.proofs.Common.{◌≡◌, ◌≢◌, ℕ, ◌++◌, ◌∷◌, List, [], Some, IsTrue}
use Rattle.std.proofs.Common.{slice_range, refl, sym, ap, ◌∙◌, subst, append_assoc, append-nil, codes}
use Rattle.std.proofs.Common.{unwrap_or, slice_get}
use Rattle.std.proofs.lemmas.List.{append_cancel_left}
use Rattle.std.proofs.lemmas.List.Elements.{All-append, All-cons, All-head, All-nil, All-tail}
use Rattle.bag_tree.specs.Out.{OutState}
use Rattle.bag_reports.specs.Input.{HasNoEnd, HoldsAhead, IsAhead, IsPassed, MayFail, MayRefuse}
use Rattle.bag_reports.specs.Reports.{HoldsOpen, ReadsOn, ReportsState}
use Rattle.bag_reports.specs.declared.refusal.Cause.{Cause}
use Rattle.bag_reports.specs.declared.refusal.Cause.TheVariants.{Output}

abbrev pub IsNoEnd : ℕ → Type 0
IsNoEnd byte = byte ≢ 10

pub same_some : (x y : List ℕ) → Some x ≡ Some y → x ≡ y
same_some x y e = ap (λ o. unwrap_or o x) e

-- what stands before the first end of a line, and what stands after it
pub same_front : (a b r s : List ℕ) → HasNoEnd a → HasNoEnd b → a ++ 10 ∷ r ≡ b ++ 10 ∷ s → (a ≡ b) × (r ≡ s)
same_front [] [] r s p q e = let same : r ≡ s = cc in (refl, same)
same_front [] (y ∷ b) r s p q e = let same : y ≡ 10 = cc in absurd (All-head IsNoEnd y b q same)
same_front (x ∷ a) [] r s p q e = let same : x ≡ 10 = cc in absurd (All-head IsNoEnd x a p same)
same_front (x ∷ a) (y ∷ b) r s p q e =
    let first : x ≡ y = cc in
    let behind : a ++ 10 ∷ r ≡ b ++ 10 ∷ s = cc in
    let rest = same_front a b r s (All-tail IsNoEnd x a p) (All-tail IsNoEnd y b q) behind in
    (cc (first, rest.0), rest.1)

-- a line without an end isn't one with an end
pub ends_not : (a b r : List ℕ) → HasNoEnd a → a ≡ b ++ 10 ∷ r → ⊥
ends_not [] [] r p e = cc
ends_not [] (y ∷ b) r p e = cc
ends_not (x ∷ a) [] r p e = let same : x ≡ 10 = cc in All-head IsNoEnd x a p same
ends_not (x ∷ a) (y ∷ b) r p e = let behind : a ≡ b ++ 10 ∷ r = cc in ends_not a b r (All-tail IsNoEnd x a p) behind

-- one byte more, which isn't an end
pub no_end_more : (line new : List ℕ) (byte : ℕ) → HasNoEnd line → byte ≢ 10 → new ≡ line ++ byte ∷ [] → HasNoEnd new
no_end_more line new byte clean other grown =
    subst HasNoEnd (sym grown)
    (All-append IsNoEnd line (byte ∷ []) clean (All-cons IsNoEnd byte [] other (All-nil IsNoEnd)))

-- what the open one holds after what has passed
pub still_held : (state : ReportsState) (passed buffer : List ℕ) (at end : ℕ)
    → IsAhead state.given passed buffer at end → HoldsOpen state
    → (rest : List ℕ) × (slice_get state.held state.open_one ≡ Some (passed ++ rest))
still_held state passed buffer at end is opened = (
  slice_range buffer at end ++ opened.0,
  opened.1 ∙ ap (λ given. Some (given ++ opened.0)) is.ahead
      ∙ ap (λ text. Some text) (append_assoc passed (slice_range buffer at end) opened.0),
)

-- reading on leaves what is held
pub same_held : (old new : ReportsState) → ReadsOn old new
    → slice_get new.held new.open_one ≡ slice_get old.held old.open_one
same_held old new reads = let held = reads.same.held in let open_is = reads.open_is in cc

pub holds_on : (old new : ReportsState) (passed rest passed' rest' : List ℕ) → ReadsOn old new
    → HoldsAhead old passed rest → passed ++ rest ≡ passed' ++ rest' → HoldsAhead new passed' rest'
holds_on old new passed rest passed' rest' reads holds cut = record {
  honest = subst IsTrue (sym reads.same.honest) holds.honest;
  opened = reads.holds holds.honest holds.opened;
  ahead = same_held old new reads ∙ holds.ahead ∙ ap (λ text. Some text) cut;
}

-- a line with an end was read where one stands
pub read_first : (old new : ReportsState) (passed passed' buffer line front rest : List ℕ) (at end : ℕ)
    → ReadsOn old new → IsAhead new.given passed' buffer at end → passed' ≡ passed ++ (line ++ codes "\n")
    → HasNoEnd line → HasNoEnd front → HoldsAhead old passed (front ++ 10 ∷ rest)
    → (line ≡ front) × HoldsAhead new passed' rest
read_first old new passed passed' buffer line front rest at end reads is grown clean plain holds =
    let opened = reads.holds holds.honest holds.opened in
    let after = still_held new passed' buffer at end is opened in
    let whole : passed' ++ after.0 ≡ passed ++ (front ++ 10 ∷ rest) =
    same_some _ _ (sym after.1 ∙ same_held old new reads ∙ holds.ahead) in
    let left : passed' ++ after.0 ≡ passed ++ (line ++ 10 ∷ after.0) =
    ap (λ t. t ++ after.0) grown ∙ append_assoc passed (line ++ codes "\n") after.0
    ∙ ap (λ t. passed ++ t) (append_assoc line (codes "\n") after.0) in
    let parts = same_front line front after.0 rest clean plain
    (append_cancel_left passed (line ++ 10 ∷ after.0) (front ++ 10 ∷ rest) (sym left ∙ whole)) in (
      parts.0,
      holds_on old new passed (front ++ 10 ∷ rest) passed' rest reads holds
          (sym whole ∙ ap (λ t. passed' ++ t) parts.1),
    )

-- a line without an end was read, so that none stood there
pub read_last : (old new : ReportsState) (passed passed' line front rest : List ℕ)
    → ReadsOn old new → IsPassed new passed' → passed' ≡ passed ++ (line ++ [])
    → HasNoEnd line → HoldsAhead old passed (front ++ 10 ∷ rest) → ⊥
read_last old new passed passed' line front rest reads all grown clean holds =
    let honest = subst IsTrue (sym reads.same.honest) holds.honest in
    let whole : passed' ≡ passed ++ (front ++ 10 ∷ rest) =
    same_some _ _ (sym (all.1 honest) ∙ same_held old new reads ∙ holds.ahead) in
    ends_not line front rest clean
    (sym (append-nil line)
    ∙ append_cancel_left passed (line ++ []) (front ++ 10 ∷ rest) (sym grown ∙ whole))

nothing_more : (passed more : List ℕ) → passed ++ more ≡ passed ++ [] → more ≡ []
nothing_more passed more e = append_cancel_left passed more [] e

-- nothing stood there
pub read_nothing : (old new : ReportsState) (passed passed' line : List ℕ)
    → ReadsOn old new → IsPassed new passed' → passed' ≡ passed ++ (line ++ [])
    → HoldsAhead old passed [] → line ≡ []
read_nothing old new passed passed' line reads all grown holds =
    let honest = subst IsTrue (sym reads.same.honest) holds.honest in
    let whole : passed' ≡ passed ++ [] =
    same_some _ _ (sym (all.1 honest) ∙ same_held old new reads ∙ holds.ahead) in
    sym (append-nil line) ∙ nothing_more passed (line ++ []) (sym grown ∙ whole)

has_first : (line rest : List ℕ) (byte : ℕ) → (line ++ byte ∷ []) ++ rest ≡ [] → ⊥
has_first [] rest byte e = cc
has_first (x ∷ line) rest byte e = cc

-- something was read where nothing stood
pub read_something : (old new : ReportsState) (passed passed' buffer line : List ℕ) (at end byte : ℕ)
    → ReadsOn old new → IsAhead new.given passed' buffer at end → passed' ≡ passed ++ (line ++ byte ∷ [])
    → HoldsAhead old passed [] → ⊥
read_something old new passed passed' buffer line at end byte reads is grown holds =
    let opened = reads.holds holds.honest holds.opened in
    let after = still_held new passed' buffer at end is opened in
    let whole : passed' ++ after.0 ≡ passed ++ [] =
    same_some _ _ (sym after.1 ∙ same_held old new reads ∙ holds.ahead) in
    let left : passed' ++ after.0 ≡ passed ++ ((line ++ byte ∷ []) ++ after.0) =
    ap (λ t. t ++ after.0) grown ∙ append_assoc passed (line ++ byte ∷ []) after.0 in
    has_first line after.0 byte (nothing_more passed ((line ++ byte ∷ []) ++ after.0) (sym left ∙ whole))

-- what may fail may refuse
pub may_refuse : (cause : Cause) (reports : ReportsState) (out : OutState) → MayFail cause reports
    → MayRefuse cause reports out
may_refuse Output reports out h = absurd h
may_refuse cause reports out h = h
