-- Texts that are written one by one.
use Rattle.bag_renew_cli.proofs.Common.{◌≡◌, ◌++◌, ◌<◌, ◌∷◌, ◌∙◌, ℕ, List, [], Option, refl, ap, sym, length, take, drop}
use Rattle.bag_renew_cli.proofs.Common.{get_or, append_assoc, arith, Appends, IsCut, IsCut-append}
use Rattle.std.proofs.Common.{zero, suc}
use Rattle.std.specs.Prelude.{flat_map}
use Rattle.bag_tree.proofs.Writing.{append-IsCut}

module _ {A : Type 0} (text : A → List ℕ) where
  -- the texts before one, that one, and the others
  split : (ones : List A) (i : ℕ) (d : A) → i < length ones
      → flat_map text ones
      ≡ flat_map text (take i ones) ++ (text (get_or ones i d) ++ flat_map text (drop (suc i) ones))
  split [] i d h = absurd (omega arith)
  split (one ∷ ones) zero d h = refl
  split (one ∷ ones) (suc i) d h =
      ap (λ rest. text one ++ rest) (split ones i d (omega arith))
      ∙ sym (append_assoc (text one) (flat_map text (take i ones))
      (text (get_or ones i d) ++ flat_map text (drop (suc i) ones)))

  -- one was cut off after those before it
  pub cut_after : (old mid new : Option (List ℕ)) (ones : List A) (i : ℕ) (one : A) → i < length ones
      → one ≡ get_or ones i one → Appends old mid (flat_map text (take i ones))
      → IsCut mid new (text one) → IsCut old new (flat_map text ones)
  cut_after old mid new ones i one h at taken cut =
      rw (split ones i one h, ← at)
      (append-IsCut old mid new (flat_map text (take i ones)) _ taken (IsCut-append mid new (text one) _ cut))
