-- Two bags have the same files of a kind where each has the same bytes in both.
use Rattle.bag_renew.proofs.Common.{◌≡◌, ◌∙◌, ℕ, Bool, true, false, cond, List, None, refl, sym, ap, entries_sorted}
use Rattle.bag_renew.proofs.Common.{filter, find, get-entries, nat_list_cmp_total, is_payload_path, text_cmp}
use Rattle.bag_renew.proofs.Common.{exact_texts, Bag, File, file, files_of, payload}
use Rattle.std.specs.FinMap.Entries.{find-where_key, is_sorted-where_key, same_entries}

module _ (test : List ℕ → Bool) where
  -- the files whose paths pass
  abbrev pub files_where : Bag → List File
  files_where b = filter (λ e. test e.0) (files_of b)

  found_where : (b : Bag) (q : List ℕ) → find text_cmp q (files_where b) ≡ cond (test q) (file b q) None
  found_where b q =
      find-where_key text_cmp test q (λ x e. ap test (sym (exact_texts q x e))) (files_of b)
      ∙ ap (λ o. cond (test q) o None) (sym (get-entries b.files q))

  module _ (one other : Bag) (same : (q : List ℕ) → test q ≡ true → file one q ≡ file other q) where
    by_test : (q : List ℕ) (t : Bool) → test q ≡ t → cond t (file one q) None ≡ cond t (file other q) None
    by_test q true passes = same q passes
    by_test q false isnt = refl

    pub files_alike : files_where one ≡ files_where other
    files_alike =
        same_entries text_cmp nat_list_cmp_total exact_texts (files_where one) (files_where other)
        (is_sorted-where_key text_cmp test (files_of one) (entries_sorted one.files))
        (is_sorted-where_key text_cmp test (files_of other) (entries_sorted other.files))
        (λ q. found_where one q ∙ by_test q (test q) refl ∙ sym (found_where other q))

pub payload_alike : (one other : Bag) → ((q : List ℕ) → is_payload_path q ≡ true → file one q ≡ file other q)
    → payload one ≡ payload other
payload_alike one other same = files_alike is_payload_path one other same
