-- The order of faults of one stage, and of a tag file's lines as faults of the bag.
use Rattle.bag_stages.proofs.Common.{arith, ◌≡◌, ◌≢◌, ◌↔◌, ℕ, List, [], ◌∷◌, map, Option, None, Some, Bool, true, false}
use Rattle.bag_stages.proofs.Common.{Contains, refl, sym, ◌∙◌, subst, if◌then◌else◌, Ordering, Less, nat_cmp}
use Rattle.bag_stages.proofs.Common.{nat_cmp_total, nat_list_cmp_total, text_cmp, rank_or_zero, stage, IsListOf, Alg}
use Rattle.bag_stages.proofs.Common.{contains_cases, contains_nothing, contains_first, contains_behind}
use Rattle.bag_stages.proofs.Common.{each_from_members, member_has, nothing_listed, LineFault, line_fault_cmp, not_utf8}
use Rattle.bag_stages.proofs.Common.{Bag, file, Fault, fault_cmp, IsReadOf, InFile, HasList, in_file, in_line}
use Rattle.bag_stages.proofs.Common.{mapped_contains, contains_mapped, self_ties}
use Rattle.std.specs.List.Sorted.{IsStrictlySortedBy}
use Rattle.bag_stages.proofs.FaultFields.{made_of}
use Rattle.bag_stages.proofs.HasLists.{nothing}

-- faults of one stage are ordered by their paths first
pub less_by_path : (x y : Fault) → stage x.code ≡ stage y.code → text_cmp x.path y.path ≡ Less → fault_cmp x y ≡ Less
less_by_path x y same less = grind (arith, self_ties nat_cmp_total (stage x.code))

-- those of one file by their algorithms
pub less_by_alg : (x y : Fault) → stage x.code ≡ stage y.code → x.path ≡ y.path
    → nat_cmp (rank_or_zero x.alg) (rank_or_zero y.alg) ≡ Less → fault_cmp x y ≡ Less
less_by_alg x y same at less =
    grind (arith, self_ties nat_cmp_total (stage x.code), self_ties nat_list_cmp_total x.path)

-- the images of an ascending list, in their order
pub mapped_ascend : {A B : Type 0} (cmp : A → A → Ordering) (by : B → B → Ordering) (g : A → B) (xs : List A)
    → IsStrictlySortedBy cmp xs
    → ((x y : A) → Contains xs x → Contains xs y → cmp x y ≡ Less → by (g x) (g y) ≡ Less)
    → IsStrictlySortedBy by (map g xs)
unfolding IsStrictlySortedBy
mapped_ascend cmp by g [] s less = tt
mapped_ascend cmp by g (x ∷ xs) s less = (
  each_from_members _ (map g xs)
      (λ y c. let at = contains_mapped g xs y c in
      subst (λ z. by (g x) z ≡ Less) at.2
      (less x at.0 (contains_first x xs) (contains_behind x xs at.0 at.1) (member_has _ xs at.0 s.0 at.1))),
  mapped_ascend cmp by g xs s.1 (λ y z c d. less y z (contains_behind x xs y c) (contains_behind x xs z d)),
)

module _ (path : List ℕ) (alg : Option Alg) where
  -- faults of one stage in one file are ordered as its lines
  pub less_in_file : (x y : LineFault) → stage x.code ≡ stage y.code → line_fault_cmp x y ≡ Less
      → fault_cmp (in_file path alg x) (in_file path alg y) ≡ Less
  less_in_file x y same less =
      rw (
        same,
        self_ties nat_cmp_total (stage y.code),
        self_ties nat_list_cmp_total path,
        self_ties nat_cmp_total (rank_or_zero alg),
      ) less

  -- a fault of the file is what it says of its line
  pub again_in_file : (f : Fault) → f.path ≡ path → f.alg ≡ alg → in_file path alg (in_line f) ≡ f
  again_in_file f p a =
      sym (made_of f f.code path alg f.line f.detail refl
      (record { path_is = p; alg_is = a; line_is = refl; detail_is = refl }))

  -- and so are faults of the bag that are of the file
  pub less_of_file : (x y : Fault) → x.path ≡ path → x.alg ≡ alg → y.path ≡ path → y.alg ≡ alg
      → stage x.code ≡ stage y.code
      → line_fault_cmp (in_line x) (in_line y) ≡ Less → fault_cmp x y ≡ Less
  less_of_file x y p a q b same less =
      grind (arith, again_in_file x p a, again_in_file y q b, less_in_file (in_line x) (in_line y) same less)

-- the faults of a file's lines that are of one stage: all of bytes that pass a test, and none of others
abbrev pub IsOfLine : Bag → List ℕ → Option Alg → ℕ → (List ℕ → LineFault → Type 0) → Fault → Type 0
IsOfLine bag path alg k IsWrong f = InFile bag f path alg IsWrong × (stage f.code ≡ k)

module _ (bag : Bag) (path : List ℕ) (alg : Option Alg) (k : ℕ) (IsWrong : List ℕ → LineFault → Type 0)
    (test : List ℕ → Bool)
    (tells : (bytes : List ℕ) (x : LineFault) → IsWrong bytes x → (stage x.code ≡ k) ↔ (test bytes ≡ true)) where
  pub lines_listed : (bytes : List ℕ) (passes : Bool) (lines : List LineFault) → file bag path ≡ Some bytes
      → passes ≡ test bytes → IsListOf line_fault_cmp (IsWrong bytes) lines
      → IsListOf fault_cmp (IsOfLine bag path alg k IsWrong) (if passes then map (in_file path alg) lines else [])
  lines_listed bytes true lines there is list =
      let of_stage : (x : LineFault) → Contains lines x → stage x.code ≡ k = λ x c.
      (tells bytes x ((list.members x).0 c)).1 (sym is) in
      record {
        ascending =
            mapped_ascend line_fault_cmp fault_cmp (in_file path alg) lines list.ascending (λ x y c d less.
            less_in_file path alg x y (of_stage x c ∙ sym (of_stage y d)) less);
        members =
            λ f. grind (
              arith,
              contains_mapped (in_file path alg) lines f,
              mapped_contains (in_file path alg) lines (in_line f),
              again_in_file path alg f,
              list.members,
              of_stage,
            );
      }
  lines_listed bytes false lines there is list =
      nothing_listed fault_cmp (IsOfLine bag path alg k IsWrong)
      (λ f h. grind (arith, tells h.0.2.0 (in_line f) h.0.2.2))

  pub lines_have_list : ((bytes : List ℕ) → (lines : List LineFault) × IsListOf line_fault_cmp (IsWrong bytes) lines)
      → (content : Option (List ℕ))
      → file bag path ≡ content → HasList (IsOfLine bag path alg k IsWrong)
  lines_have_list faults None e =
      nothing (IsOfLine bag path alg k IsWrong) (λ f h. let clash : None ≡ Some h.0.2.0 = sym e ∙ h.0.2.1 in cc)
  lines_have_list faults (Some bytes) e =
      let lines =
      faults bytes in (
        if test bytes then map (in_file path alg) lines.0
            else [],
        (lines_listed bytes (test bytes) lines.0 e refl lines.1).members,
      )

-- bytes that aren't UTF-8 have one fault, of the second stage
pub text_tells : (k : ℕ) (IsWrong : LineFault → Type 0) (x : LineFault) (text : Bool) → k ≢ 2
    → (text ≡ true → stage x.code ≡ k)
    → (text ≡ false → IsListOf line_fault_cmp IsWrong (not_utf8 ∷ []))
    → IsWrong x → (stage x.code ≡ k) ↔ (text ≡ true)
text_tells k IsWrong x true other of_text no_text wrong = (λ s. refl, λ t. of_text refl)
text_tells k IsWrong x false other of_text no_text wrong =
    grind (arith, no_text refl, contains_cases not_utf8 [] x, contains_nothing)

-- what was read of a file is of its bytes, and a file of which nothing was read isn't there
module _ {A : Type 0} (IsOf : List ℕ → A → Type 0) where
  pub read_bytes : (content : Option (List ℕ)) (x : A) → IsReadOf IsOf content (Some x)
      → (bytes : List ℕ) × (content ≡ Some bytes) × IsOf bytes x
  read_bytes None x read = absurd read
  read_bytes (Some bytes) x read = (bytes, refl, read)

  pub not_there : (content : Option (List ℕ)) → IsReadOf IsOf content None → content ≡ None
  not_there None read = refl
  not_there (Some bytes) read = absurd read
