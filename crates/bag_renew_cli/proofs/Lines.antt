-- The line about a bag is written in two parts.
use Rattle.bag_renew_cli.proofs.Common.{◌≡◌, ◌++◌, ℕ, List, ap, ◌∙◌, sym, codes, append_assoc}

module _ (name : List ℕ) where
  pub path_line : (path said : List ℕ)
      → (name ++ codes " not renewed: ") ++ (path ++ (said ++ codes "\n"))
      ≡ name ++ (codes " not renewed: " ++ ((path ++ said) ++ codes "\n"))
  path_line path said =
      append_assoc name (codes " not renewed: ") (path ++ (said ++ codes "\n"))
      ∙ ap (λ t. name ++ (codes " not renewed: " ++ t)) (sym (append_assoc path said (codes "\n")))

  pub faulty_line : (line : List ℕ)
      → (name ++ (codes " not renewed: " ++ codes "fault ")) ++ (line ++ codes "\n")
      ≡ name ++ (codes " not renewed: " ++ ((codes "fault " ++ line) ++ codes "\n"))
  faulty_line line = append_assoc name (codes " not renewed: " ++ codes "fault ") (line ++ codes "\n")
