use Rattle.bag_cli.proofs.Common.{[], inr, refl, ap, sym, unwrap_or, ◌∙◌, ℕ, List, Option}
use Rattle.bag_text.specs.declared.alg.Alg.TheVariants.{Sha256}
use Rattle.bag_cli.proofs.profile_file.sha256_of.Goals as goal

pub returns-in-Ok : goal.returns-in-Ok
returns-in-Ok c =
    let has = (c.with.ensures.members Sha256).1 (inr refl) in
    c.from_string.ensures
    ∙ ap (λ (sum : Option (List ℕ)). unwrap_or sum []) (sym c.in-Ok.ensures.text ∙ c.sums_of.ensures.each Sha256 has)
