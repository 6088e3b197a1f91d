use Rattle.bag_facts.proofs.Common.{◌≡◌, bytes_eq, true, false, refl, sym, bytes_eq-Decides, tag_path, Manifest}
use Rattle.bag_facts.proofs.listed_manifest.is_manifest.Goals as goal

pub returns-in-None : goal.returns-in-None
returns-in-None c =
    let own = tag_path (Manifest c.args.kind c.args.alg) in
    elim (bytes_eq c.args.path.now own) as (λ b. bytes_eq c.args.path.now own ≡ b → false ≡ b) [
      | true ↦ λ same.
          absurd (c.in-None.ensures (Manifest c.args.kind c.args.alg)
          (sym ((bytes_eq-Decides c.args.path.now own).0 same)))
      | false ↦ λ _. refl
    ] refl
