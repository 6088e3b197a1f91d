-- Texts that compare alike are one.
use Rattle.bag_tree.proofs.Common.{◌≡◌, ℕ, List, true, refl, ap, sym, arith, slice_cmp-IsAntisymmetric}
use Rattle.bag_tree.proofs.Common.{nat_cmp-IsAntisymmetric, IsAntisymmetric, nat_cmp, eq_by_cmp, is_eq}
use Rattle.bag_tree.proofs.Common.{nat_list_cmp_total, bytes_eq, nat_tests, text_cmp}
use Rattle.std.specs.BTreeMap.{is_at}
use Rattle.std.specs.Cmp.{Equal-is, tied_itself}
use Rattle.std.proofs.lemmas.Cmp.{same_from_slice_cmp}

pub exact_texts : IsAntisymmetric text_cmp
exact_texts = slice_cmp-IsAntisymmetric nat_cmp-IsAntisymmetric

pub one_text : (p q : List ℕ) → eq_by_cmp text_cmp p q ≡ true → p ≡ q
one_text p q e = exact_texts p q ((Equal-is (text_cmp p q)).0 e)

pub text_itself : (p : List ℕ) → eq_by_cmp text_cmp p p ≡ true
text_itself p = ap is_eq (tied_itself nat_list_cmp_total p)

-- texts of the same bytes are texts that compare alike
pub same_test : (p q : List ℕ) → bytes_eq p q ≡ is_at (text_cmp q) p
same_test p q =
    sym (same_from_slice_cmp nat_cmp is_eq (λ xs ys. bytes_eq ys xs) refl (λ _ _. refl) (λ _ _. refl)
    (λ x y xs ys o h. grind (arith, nat_tests)) q p (text_cmp q p) refl)
