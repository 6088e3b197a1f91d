-- Texts that are lent, one by one and as a list.
use Rattle.bag_renew_cli.proofs.Common.{◌≡◌, ◌&&◌, Bool, List, [], ◌∷◌, refl, ap, map, list_all, Bor, Text}

pub all_lent : (p : Text → Bool) (texts : List (Bor Text))
    → list_all (λ text. p text.now) texts ≡ list_all p (map (λ text. text.now) texts)
all_lent p [] = refl
all_lent p (text ∷ rest) = ap (λ b. p text.now && b) (all_lent p rest)

pub map_lent : {X : Type 0} (f : Text → X) (texts : List (Bor Text))
    → map (λ text. f text.now) texts ≡ map f (map (λ text. text.now) texts)
map_lent f [] = refl
map_lent f (text ∷ rest) = ap (λ more. f text.now ∷ more) (map_lent f rest)
