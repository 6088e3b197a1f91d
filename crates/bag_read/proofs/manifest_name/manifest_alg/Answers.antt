use Rattle.bag_read.proofs.Common.{Some, ap, false, sym, true, ◌∙◌, ◌≡◌, after_prefix, is_alg_text, prefix}
use Rattle.bag_read.proofs.ManifestName.{same_alg}
use Rattle.bag_read.proofs.Texts.{after_is}
use Rattle.bag_read.proofs.manifest_name.manifest_alg.Goals as goal

pub returns-else-is_alg_text : goal.returns-else-is_alg_text
returns-else-is_alg_text c = record {
  alg = λ alg good e.
      let name = c.args.name.now in
      let rest = c.in-Some.rest.now in
      let found : after_prefix (prefix c.args.kind) name ≡ Some rest = rw c.prefix.ensures at (sym c.in-Some.ensures) in
      let same =
      same_alg c.args.kind name rest c.in-Some-before_suffix.alg.now alg
      (after_is (prefix c.args.kind) name rest found) c.in-Some-before_suffix.ensures e in
      let clash : false ≡ true = c.if-is_alg_text.ensures ∙ ap is_alg_text same ∙ good in
      cc;
}
