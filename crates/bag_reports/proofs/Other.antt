-- The closing line of a part that is done is a line of its own, and no fault's.
use Rattle.std.proofs.Common.{◌≡◌, ◌≢◌, ℕ, ◌+◌, ◌<◌, ◌^◌, ◌++◌, ◌∷◌, ◌==◌, List, [], Bool, true, false, All, Option, Some, None}
use Rattle.std.proofs.Common.{arith, codes, decimal, not, refl, sym, subst, append_assoc}
use Rattle.std.specs.Cmp.Derive.{both_true}
use Rattle.std.specs.List.{list_all}
use Rattle.std.specs.Prelude.{IsUtf8, bytes_eq}
use Rattle.std.proofs.lemmas.Bool.Decides.{nat_tests}
use Rattle.std.proofs.lemmas.List.Elements.{All-append, All-cons, All-nil}
use Rattle.bag_text.specs.Alg.{name}
use Rattle.bag_text.specs.Code.{number}
use Rattle.bag_text.specs.CodeWord.{word}
use Rattle.bag_text.specs.declared.alg.Alg.{Alg}
use Rattle.bag_faults.proofs.Algs.{each_alg, other_texts}
use Rattle.bag_faults.proofs.Spaces.{HasNoSpace, IsNoSpace, decimal_clean, field_clean, number_clean, same_front, word_clean}
use Rattle.bag_faults.specs.FaultLine.{alg_field, fault_line, field}
use Rattle.bag_faults.specs.Part.{Part}
use Rattle.bag_faults.specs.declared.fault.Fault.{Fault}
use Rattle.bag_walk.specs.PartRuns.{clashes_words, profile_words}
use Rattle.bag_reports.specs.DoneLine.{IsProfileSum, IsSubject, is_sum_digit, line_for}
use Rattle.bag_reports.specs.declared.done_line.Subject.{Subject}
use Rattle.bag_reports.specs.Faults.{IsOther}
use Rattle.bag_reports.proofs.Plain.{IsPlain, decimal_plain, field_plain, from_test, line_is_text, no_end}

-- the line without its end
abbrev pub done_front : Subject → Part → ℕ → List ℕ
done_front subject part n =
    field subject.name ++ (codes " part " ++ (decimal (part.number + 1) ++ (codes " of " ++ (decimal part.of
    ++ (codes " done, files: " ++ (decimal subject.listed.files ++ (codes ", bytes: " ++ (decimal subject.listed.bytes
    ++ (clashes_words subject.clashes ++ (profile_words subject.profile
    ++ (codes ", faults: " ++ decimal n)))))))))))

pub done_ended : (subject : Subject) (part : Part) (n : ℕ)
    → line_for subject part n ≡ done_front subject part n ++ codes "\n"
done_ended subject part n = simp append_assoc

-- numbers that fit, and a SHA-256
pub record AreSmall (subject : Subject) (part : Part) (n : ℕ) : Type 0 where
  pub number : part.number < 2 ^ 63
  pub of : part.of < 2 ^ 64
  pub told : IsSubject subject
  pub count : n < 2 ^ 64

clashes_plain : (clashes : Bool) → All IsPlain (clashes_words clashes)
clashes_plain true = from_test (codes ", clashes") refl
clashes_plain false = All-nil IsPlain

digits_plain : (sum : List ℕ) → list_all is_sum_digit sum ≡ true → All IsPlain sum
digits_plain [] e = All-nil IsPlain
digits_plain (d ∷ sum) e =
    All-cons IsPlain d sum (grind (arith, both_true, nat_tests)) (digits_plain sum (grind (arith, both_true, nat_tests)))

profile_plain : (sum : Option (List ℕ)) → IsProfileSum sum → All IsPlain (profile_words sum)
profile_plain None is = All-nil IsPlain
profile_plain (Some sum) is =
    All-append IsPlain (codes ", profile: ") sum (from_test (codes ", profile: ") refl) (digits_plain sum is.digits)

pub done_plain : (subject : Subject) (part : Part) (n : ℕ) → AreSmall subject part n
    → All IsPlain (done_front subject part n)
done_plain subject part n small =
    let number = small.number in
    let of = small.of in
    let files = small.told.files in
    let count = small.count in
    All-append IsPlain (field subject.name) _ (field_plain subject.name)
    (All-append IsPlain (codes " part ") _ (from_test (codes " part ") refl)
    (All-append IsPlain (decimal (part.number + 1)) _ (decimal_plain (part.number + 1) (omega arith))
    (All-append IsPlain (codes " of ") _ (from_test (codes " of ") refl)
    (All-append IsPlain (decimal part.of) _ (decimal_plain part.of (omega arith))
    (All-append IsPlain (codes " done, files: ") _ (from_test (codes " done, files: ") refl)
    (All-append IsPlain (decimal subject.listed.files) _ (decimal_plain subject.listed.files (omega arith))
    (All-append IsPlain (codes ", bytes: ") _ (from_test (codes ", bytes: ") refl)
    (All-append IsPlain (decimal subject.listed.bytes) _ (decimal_plain subject.listed.bytes small.told.bytes)
    (All-append IsPlain (clashes_words subject.clashes) _ (clashes_plain subject.clashes)
    (All-append IsPlain (profile_words subject.profile) _ (profile_plain subject.profile small.told.profile)
    (All-append IsPlain (codes ", faults: ") _ (from_test (codes ", faults: ") refl)
    (decimal_plain n (omega arith)))))))))))))

pub no_space : (xs : List ℕ) → list_all (λ b. not (b == 32)) xs ≡ true → HasNoSpace xs
no_space [] e = All-nil IsNoSpace
no_space (x ∷ xs) e = All-cons IsNoSpace x xs (grind (arith, nat_tests)) (no_space xs (grind (arith, nat_tests)))

-- no algorithm is called so
no_alg : (alg : Option Alg) → alg_field alg ≢ codes "of"
no_alg None e = cc
no_alg (Some alg) e =
    other_texts (name alg) (codes "of")
    (let test = each_alg (λ a. not (bytes_eq (name a) (codes "of"))) refl alg in grind arith) e

alg_clean : (alg : Option Alg) → HasNoSpace (alg_field alg)
alg_clean None = no_space (codes "-") refl
alg_clean (Some alg) = no_space (name alg) (each_alg (λ a. list_all (λ b. not (b == 32)) (name a)) refl alg)

-- The fourth field of a fault's line is an algorithm's.
pub no_fault : (subject : Subject) (part : Part) (n : ℕ) → AreSmall subject part n
    → (f : Fault) → fault_line f ≡ done_front subject part n → ⊥
no_fault subject part n small f e =
    let below = small.number in
    let a = same_front (decimal (number f.code)) (field subject.name) _ _ (number_clean f.code) (field_clean subject.name) e in
    let b = same_front (word f.code) (codes "part") _ _ (word_clean f.code) (no_space (codes "part") refl) a.1 in
    let c = same_front (field f.path) (decimal (part.number + 1)) _ _ (field_clean f.path)
    (decimal_clean (part.number + 1) (omega arith)) b.1 in
    let d = same_front (alg_field f.alg) (codes "of") _ _ (alg_clean f.alg) (no_space (codes "of") refl) c.1 in
    no_alg f.alg d.0

pub done_is_other : (subject : Subject) (part : Part) (n : ℕ) → AreSmall subject part n
    → IsOther (done_front subject part n)
done_is_other subject part n small = record {
  plain = no_end (done_front subject part n) (done_plain subject part n small);
  other = λ f is. no_fault subject part n small f is.text;
}

pub done_is_text : (subject : Subject) (part : Part) (n : ℕ) → AreSmall subject part n
    → IsUtf8 (line_for subject part n)
done_is_text subject part n small =
    subst IsUtf8 (sym (done_ended subject part n))
    (line_is_text (done_front subject part n) (done_plain subject part n small))
