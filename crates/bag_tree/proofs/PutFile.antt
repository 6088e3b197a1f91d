-- A file that was written beside the others is given its name, or one is removed.
use Rattle.bag_tree.proofs.Common.{◌≡◌, ◌≢◌, ◌++◌, ◌∷◌, ◌&&◌, ℕ, inl, inr, Bool, true, false}
use Rattle.bag_tree.proofs.Common.{List, [], Some, None, Option, cond, is_some, nat_eq, refl, ap, sym, ◌∙◌}
use Rattle.bag_tree.proofs.Common.{append_assoc, length, drop, false≢true}
use Rattle.bag_tree.proofs.Common.{nat_list_cmp_total, get-insert, get-entries, find, is_base_name, slash, under}
use Rattle.bag_tree.proofs.Common.{text_cmp}
use Rattle.bag_tree.proofs.Common.{eq_by_cmp, first_component, file, files_of, is_within, moved, starts_with}
use Rattle.std.proofs.Common.{◌||◌, not}
use Rattle.std.proofs.lemmas.Bool.{false_from_ne_true, or_cases, or_from}
use Rattle.std.specs.FinMap as fin
use Rattle.std.specs.FinMap.{get-retain_keys}
use Rattle.std.specs.FinSet as set
use Rattle.std.specs.FinSet.{contains-remove, same_set}
use Rattle.std.specs.List.{list_any}
use Rattle.std.specs.Str.{bytes_eq}
use Rattle.bag_tree.proofs.Events.{created_again, file_within, other_name}
use Rattle.bag_tree.proofs.Moving.{moves_all}
use Rattle.bag_tree.proofs.Parents.{base_not_under, first-under}
use Rattle.bag_tree.proofs.SameText.{exact_texts, one_text, text_itself}
use Rattle.bag_tree.proofs.Within.{itself_within, not_within, prefix_test, under_within, within_cases}
use Rattle.bag_tree.specs.Bag.{Bag, has_file, has_folder}
use Rattle.bag_tree.specs.Cut.{done, has_below, hold, is_there, lose, rename, without}
use Rattle.bag_tree.specs.FileChanges.{IsFree, IsNoFolder}
use Rattle.bag_tree.specs.MovesAll.{MovesAll}
use Rattle.bag_tree.specs.Steps.{create, has_within}
use Rattle.bag_tree.specs.declared.event.DeviceEvent.TheVariants as event

pub no_file : (d : Bag) (name : List ℕ) → has_within d name ≡ false → (q : List ℕ) → is_within name q ≡ true
    → (o : Option (List ℕ)) → file d q ≡ o → file d q ≡ None
no_file d name none q within None at = at
no_file d name none q within (Some c) at = absurd (false≢true (sym none ∙ file_within d name q c at within))

pub no_content : (o : Option (List ℕ)) → o ≡ None → is_some o ≡ false
no_content o none = ap is_some none

pub written_again : (name found more : List ℕ) (d : Bag) → hold name more (create name found d) ≡ create name more d
written_again name found more d =
    ap (λ b. cond b (create name more (create name found d)) (create name found d)) there
    ∙ created_again name found more d
  where
    there : has_file (create name found d) name ≡ true
    there =
        ap is_some (get-insert nat_list_cmp_total d.files name found name
        ∙ ap (λ b. cond b (Some found) (file d name)) (text_itself name))

pub not_held : (name more : List ℕ) (d : Bag) → has_file d name ≡ false → hold name more d ≡ d
not_held name more d none = ap (λ b. cond b (create name more d) d) none

-- a path that passes, of those that are there
any_found : (p : List ℕ → Bool) (es : List (List ℕ × List ℕ)) → list_any (λ e. p e.0) es ≡ true
    → (k : List ℕ) × (c : List ℕ) × (p k ≡ true) × (find text_cmp k es ≡ Some c)
any_found p [] is = absurd (false≢true is)
any_found p (e ∷ es) is = elim (or_cases (p e.0) (list_any (λ e. p e.0) es) is) [
  | inl first ↦ (e.0, e.1, first, ap (λ b. cond b (Some e.1) (find text_cmp e.0 es)) (text_itself e.0))
  | inr later ↦
      let more = any_found p es later in
      let has = with_first (eq_by_cmp text_cmp more.0 e.0) e.1 more.1 (find text_cmp more.0 es) more.3 in
      (more.0, has.0, more.2, has.1)
]
  where
    with_first : (b : Bool) (v c : List ℕ) (o : Option (List ℕ)) → o ≡ Some c
        → (w : List ℕ) × (cond b (Some v) o ≡ Some w)
    with_first true v c o at = (v, refl)
    with_first false v c o at = (c, at)

-- the file that was written beside is given its name
module _ (beside name bytes : List ℕ) (d : Bag) (beside_is : is_base_name beside ≡ true)
    (name_is : is_base_name name ≡ true) (other : beside ≢ name) (free : IsFree d beside)
    (no_folder : IsNoFolder d name) where
  abbrev begun : Bag
  begun = create beside bytes d

  at_begun : (q : List ℕ) → file begun q ≡ cond (eq_by_cmp text_cmp q beside) (Some bytes) (file d q)
  at_begun q = get-insert nat_list_cmp_total d.files beside bytes q

  at_put : (q : List ℕ) → file (create name bytes d) q ≡ cond (eq_by_cmp text_cmp q name) (Some bytes) (file d q)
  at_put q = get-insert nat_list_cmp_total d.files name bytes q

  not_equal : (p q : List ℕ) → p ≢ q → eq_by_cmp text_cmp p q ≡ false
  not_equal p q differ = false_from_ne_true _ (λ same. differ (one_text p q same))

  none_beside : (q : List ℕ) → is_within beside q ≡ true → file d q ≡ None
  none_beside q within = no_file d beside free.no_file q within (file d q) refl

  no_content_of : (q c : List ℕ) → file d q ≡ Some c → is_within beside q ≡ true → ⊥
  no_content_of q c at within = false≢true (sym (ap is_some (none_beside q within)) ∙ ap is_some at)

  -- nothing is below it
  none_below_it : has_below begun beside ≡ false
  none_below_it = false_from_ne_true _ (λ is.
      let one = any_found (λ k. starts_with nat_eq k (beside ++ slash ∷ [])) (files_of begun) is in
      let rest = drop (length (beside ++ slash ∷ [])) one.0 in
      let below : one.0 ≡ under beside rest =
      (prefix_test (beside ++ slash ∷ []) one.0).0 one.2 ∙ append_assoc beside (slash ∷ []) rest in
      let differ : one.0 ≢ beside = λ same. base_not_under beside beside rest beside_is (sym same ∙ below) in
      let old : file d one.0 ≡ Some one.1 =
      sym (at_begun one.0 ∙ ap (λ b. cond b (Some bytes) (file d one.0)) (not_equal one.0 beside differ))
      ∙ get-entries begun.files one.0 ∙ one.3 in
      no_content_of one.0 one.1 old (ap (is_within beside) below ∙ under_within beside rest))

  not_empty : beside ≢ []
  not_empty same = false≢true (sym (ap is_base_name same) ∙ beside_is)

  not_there : is_there begun beside ≡ false
  not_there =
      or_from (bytes_eq beside [] || has_folder d beside) (has_below begun beside)
      (or_from (bytes_eq beside []) (has_folder d beside) (other_name beside [] not_empty) free.no_folder) none_below_it

  abbrev all : fin.FinMap text_cmp (List ℕ)
  all = without name begun.files

  at_all : (q : List ℕ) → fin.get all q ≡ cond (not (is_within name q)) (file begun q) None
  at_all q =
      get-retain_keys begun.files (λ p. not (is_within name p)) q (λ x same.
      ap (λ p. not (is_within name p)) (sym (exact_texts q x same)))

  beside_not_in_name : is_within name beside ≡ false
  beside_not_in_name = not_within name beside (λ within. elim within [
    | inl at ↦ other at
    | inr below ↦ base_not_under beside name below.0 beside_is below.1
  ])

  below_not_in_name : (rest : List ℕ) → is_within name (under beside rest) ≡ false
  below_not_in_name rest = not_within name (under beside rest) (λ within. elim within [
    | inl at ↦ base_not_under name beside rest name_is (sym at)
    | inr below ↦ one_first rest below.0 below.1
  ])
    where
      one_first : (r s : List ℕ) → under beside r ≡ under name s → ⊥
      one_first r s same =
          other (sym (first-under beside r beside_is) ∙ ap first_component same ∙ first-under name s name_is)

  goes : (q : List ℕ) → fin.get (moved beside name all) q ≡ file (create name bytes d) q
  goes q = by_place (is_within beside q) refl (is_within name q) refl
    where
      moves : MovesAll all (moved beside name all) beside name
      moves = moves_all all beside name (λ p within. at_all p ∙ ap (λ b. cond (not b) (file begun p) None) within)

      none_under : (rest : List ℕ) (o : Option (List ℕ)) → file d (under name rest) ≡ o
          → file d (under name rest) ≡ None
      none_under rest None at = at
      none_under rest (Some c) at = absurd (no_folder.below rest c at)

      -- where nothing was
      nothing_at : is_within beside q ≡ true → q ≢ name → file (create name bytes d) q ≡ None
      nothing_at within differ =
          at_put q ∙ ap (λ b. cond b (Some bytes) (file d q)) (not_equal q name differ) ∙ none_beside q within

      by_place : (b : Bool) → is_within beside q ≡ b → (c : Bool) → is_within name q ≡ c
          → fin.get (moved beside name all) q ≡ file (create name bytes d) q
      by_place true within c at = elim (within_cases beside q within) [
        | inl itself ↦
            moves.left q within (ap (is_within name) itself ∙ beside_not_in_name)
            ∙ sym (nothing_at within (λ same. other (sym itself ∙ same)))
        | inr below ↦
            moves.left q within (ap (is_within name) below.1 ∙ below_not_in_name below.0)
            ∙ sym (nothing_at within (λ same. base_not_under name beside below.0 name_is (sym same ∙ below.1)))
      ]
      by_place false off true within = elim (within_cases name q within) [
        | inl itself ↦
            ap (fin.get (moved beside name all)) itself ∙ moves.arrived ∙ at_all beside
            ∙ ap (λ b. cond (not b) (file begun beside) None) beside_not_in_name ∙ at_begun beside
            ∙ ap (λ b. cond b (Some bytes) (file d beside)) (text_itself beside)
            ∙ sym (ap (file (create name bytes d)) itself ∙ at_put name
            ∙ ap (λ b. cond b (Some bytes) (file d name)) (text_itself name))
        | inr below ↦
            ap (fin.get (moved beside name all)) below.1 ∙ moves.arrived_below below.0 ∙ at_all (under beside below.0)
            ∙ ap (λ b. cond (not b) (file begun (under beside below.0)) None) (below_not_in_name below.0)
            ∙ at_begun (under beside below.0)
            ∙ ap (λ b. cond b (Some bytes) (file d (under beside below.0)))
            (not_equal (under beside below.0) beside
            (λ same. base_not_under beside beside below.0 beside_is (sym same)))
            ∙ none_beside (under beside below.0) (under_within beside below.0)
            ∙ sym (ap (file (create name bytes d)) below.1 ∙ at_put (under name below.0)
            ∙ ap (λ b. cond b (Some bytes) (file d (under name below.0)))
            (not_equal (under name below.0) name (λ same. base_not_under name name below.0 name_is (sym same)))
            ∙ none_under below.0 (file d (under name below.0)) refl)
      ]
      by_place false off false out =
          moves.others q off out ∙ at_all q ∙ ap (λ b. cond (not b) (file begun q) None) out ∙ at_begun q
          ∙ ap (λ b. cond b (Some bytes) (file d q))
          (not_equal q beside (λ same. false≢true (sym off ∙ ap (is_within beside) same ∙ itself_within beside)))
          ∙ sym (at_put q ∙ ap (λ b. cond b (Some bytes) (file d q))
          (not_equal q name (λ same. false≢true (sym out ∙ ap (is_within name) same ∙ itself_within name))))

  no_member : (q n : List ℕ) → has_folder d n ≡ false → (b : Bool) → eq_by_cmp text_cmp q n ≡ b
      → (not b && has_folder d q) ≡ has_folder d q
  no_member q n absent true same = sym (ap (has_folder d) (one_text q n same) ∙ absent)
  no_member q n absent false differ = refl

  same_folders : set.remove (set.remove d.folders name) beside ≡ d.folders
  same_folders = same_set nat_list_cmp_total exact_texts (set.remove (set.remove d.folders name) beside) d.folders (λ q.
      contains-remove nat_list_cmp_total (set.remove d.folders name) beside q
      ∙ ap (λ b. not (eq_by_cmp text_cmp q beside) && b)
      (contains-remove nat_list_cmp_total d.folders name q
      ∙ no_member q name no_folder.absent (eq_by_cmp text_cmp q name) refl)
      ∙ no_member q beside free.no_folder (eq_by_cmp text_cmp q beside) refl)

  renamed_begun : rename beside name begun ≡ create name bytes d
  unfolding rename
  renamed_begun =
      let files =
      fin.same_map nat_list_cmp_total exact_texts (moved beside name all) (create name bytes d).files goes in
      let kind =
      ap (λ b. set.remove (cond b (cond (is_there begun beside) (set.insert d.folders name)
      (set.remove d.folders name)) d.folders) beside) name_is
      ∙ ap (λ b. set.remove (cond b (set.insert d.folders name) (set.remove d.folders name)) beside) not_there
      ∙ same_folders in
      (λ i. record { files = files i; folders = kind i })

  pub done_put : done (event.Rename beside name) begun ≡ create name bytes d
  unfolding done
  done_put = ap (λ b. cond b begun (rename beside name begun)) (other_name beside name other) ∙ renamed_begun

pub done_remove : (name : List ℕ) (d : Bag) → done (event.Remove name) d ≡ lose name d
unfolding done
done_remove name d = refl
