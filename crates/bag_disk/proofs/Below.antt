-- A text that goes on after a base folder and a slash.
use Rattle.bag_disk.proofs.Common.{◌≡◌, ◌≢◌, ℕ, true, List, [], ◌∷◌, ◌++◌, length, take, drop, take-append-drop, refl}
use Rattle.bag_disk.proofs.Common.{sym, ap, ◌∙◌, pointwise, same_text, nat_eq, slash, location_below}

pub location_cut : (text base path below rest : List ℕ) (c : ℕ) → path ≢ []
    → pointwise nat_eq (take (length base) text) base ≡ true → below ≡ drop (length base) text
    → below ≡ c ∷ rest → c ≡ slash → true ≡ pointwise nat_eq rest path → text ≡ location_below base path
location_cut text base [] below rest c some front back cut is_slash same = absurd (some refl)
location_cut text base (d ∷ path) below rest c some front back cut is_slash same =
    sym (take-append-drop (length base) text)
    ∙ ap (λ xs. xs ++ drop (length base) text) (same_text (take (length base) text) base (sym front))
    ∙ ap (λ xs. base ++ xs)
    (sym back ∙ cut ∙ ap (λ b. b ∷ rest) is_slash ∙ ap (λ xs. slash ∷ xs) (same_text rest (d ∷ path) same))
