use Rattle.bag_facts.proofs.Common.{◌≡◌, ◌↔◌, false, true, sym, ◌∙◌, get_or, IsTrue, algs, Alg, Md5, tag_path, Manifest}
use Rattle.bag_facts.proofs.Common.{HasFile}
use Rattle.bag_facts.proofs.AlgsOf.{all_algs, one_alg_more, one_alg_other}
use Rattle.bag_facts.proofs.ListedPaths.{bag_has_one}
use Rattle.bag_facts.proofs.facts.Facts.algs.Goals as goal
use Rattle.bag_facts.proofs.facts.Facts.algs.Goals.{then-has_manifest, else-has_manifest}

pub loop-alg-preserved : goal.loop-alg-preserved
loop-alg-preserved c = λ bag facts.
    let IsThere : Alg → Type 0 = λ alg. HasFile bag (tag_path (Manifest c.args.kind alg)) in
    let i = c.loop-alg.alg-index in
    let so_far = c.loop-alg.invariant bag facts in
    let tells : IsTrue c.has_manifest.result ↔ IsThere (get_or algs i Md5) =
    bag_has_one bag c.args.self.now c.as_slice-files.result.now _ c.has_manifest.result facts c.as_slice-files.ensures
    c.has_manifest.ensures in
    elim c.if-has_manifest.branch [
      | then-has_manifest w ↦ rw w.algs-is
          (one_alg_more IsThere i Md5 c.loop-alg.algs c.loop-alg-test.true so_far w.with-algs.result
          (tells.0 w.if-has_manifest.true) w.with-algs.ensures.members)
      | else-has_manifest w ↦ rw w.algs-is
          (one_alg_other IsThere i Md5 c.loop-alg.algs c.loop-alg-test.true so_far
          (λ has. let clash : false ≡ true = sym w.if-has_manifest.false ∙ tells.1 has in cc))
    ]

pub returns : goal.returns
returns c = λ bag facts.
    all_algs (λ alg. HasFile bag (tag_path (Manifest c.args.kind alg))) c.loop-alg.alg-index c.loop-alg.algs
    c.loop-alg-test.false (c.loop-alg.invariant bag facts)
