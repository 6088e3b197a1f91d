-- What stands in the renewed bag.
use Rattle.bag_changes.proofs.Common.{◌≡◌, inl, inr, ℕ, List, Some, sym, ap, ◌∙◌, subst, nat_list_cmp_total, find}
use Rattle.bag_changes.proofs.Common.{get-from_entries, text_cmp, paths_differ, is_payload_path, Payload, Tag}
use Rattle.bag_changes.proofs.Common.{TagName, Declaration, Info, Fetch, Manifest, Bag, file, stays, Renewal}
use Rattle.bag_renewed.specs.Renewed.{renewed}
use Rattle.bag_changes.specs.Contents.{IsNew, IsNewText, IsOld, RenewedHasTheseFiles, Stands}
use Rattle.bag_facts.proofs.Found.{found, found_alone}
use Rattle.bag_changes.proofs.Members.{all, from_all, to_all}
use Rattle.bag_changes.proofs.Staying.{IsWritten, no_payload_tag, written_goes}

module _ (bag : Bag) (renewal : Renewal) where
  held : (q : List ℕ) → file (renewed bag renewal) q ≡ find text_cmp q (all bag renewal)
  unfolding renewed
  held q = get-from_entries nat_list_cmp_total (all bag renewal) q

  -- ---- each path once

  pub one_new_text : (tag : TagName) (c d : List ℕ) → IsNewText bag renewal tag c → IsNewText bag renewal tag d → c ≡ d
  one_new_text (Manifest Payload alg) c d h k = h.1 ∙ sym k.1
  one_new_text (Manifest Tag alg) c d h k = h.1 ∙ sym k.1
  one_new_text Declaration c d h k = h ∙ sym k
  one_new_text Info c d h k = let both : Some c ≡ Some d = sym h ∙ k in cc
  one_new_text Fetch c d h k = absurd h

  written : (tag : TagName) (c : List ℕ) → IsNewText bag renewal tag c → IsWritten tag
  written Declaration c h = tt
  written Info c h = tt
  written Fetch c h = h
  written (Manifest kind alg) c h = tt

  pub both_new : (q c d : List ℕ) → IsNew bag renewal q c → IsNew bag renewal q d → c ≡ d
  both_new q c d (a, at_a, text_a) (b, at_b, text_b) =
      one_new_text b c d
      (subst (λ t. IsNewText bag renewal t c) (paths_differ a b (sym at_a ∙ at_b)) text_a) text_b

  pub old_or_new : (q c d : List ℕ) → IsOld bag q c → IsNew bag renewal q d → ⊥
  old_or_new q c d (at, inl is) (tag, path, text) = no_payload_tag tag (ap is_payload_path (sym path) ∙ is)
  old_or_new q c d (at, inr is) (tag, path, text) = written_goes tag (written tag d text) (ap stays (sym path) ∙ is)

  pub one_stands : (q c d : List ℕ) → Stands bag renewal q c → Stands bag renewal q d → c ≡ d
  one_stands q c d (inl a) (inl b) = let both : Some c ≡ Some d = sym a.0 ∙ b.0 in cc
  one_stands q c d (inl a) (inr b) = absurd (old_or_new q c d a b)
  one_stands q c d (inr a) (inl b) = absurd (old_or_new q d c b a)
  one_stands q c d (inr a) (inr b) = both_new q c d a b

  from_file : (q c : List ℕ) → file (renewed bag renewal) q ≡ Some c → Stands bag renewal q c
  from_file q c e = from_all bag renewal q c (found q c (all bag renewal) (sym (held q) ∙ e))

  to_file : (q c : List ℕ) → Stands bag renewal q c → file (renewed bag renewal) q ≡ Some c
  to_file q c h =
      held q
      ∙ found_alone q c (all bag renewal) (to_all bag renewal q c h) (λ d e. one_stands q d c (from_all bag renewal q d (found q d (all bag renewal) e)) h)

pub these_files : RenewedHasTheseFiles
these_files bag renewal path content = (from_file bag renewal path content, to_file bag renewal path content)
