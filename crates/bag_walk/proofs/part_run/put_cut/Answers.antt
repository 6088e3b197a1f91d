use Rattle.bag_walk.proofs.Common.{subst, sym, ap, ◌++◌, ◌∙◌, append_assoc, codes, List, ℕ, Writes}
use Rattle.std.specs.Prelude.{decimal}
use Rattle.bag_walk.specs.PartRuns.{clashes_words}
use Rattle.bag_walk.proofs.part_run.put_cut.Goals as goal

pub returns : goal.returns
returns g c =
    let tail : List ℕ = codes ", faults: " ++ (decimal c.args.count ++ codes "\n") in
    let before : List ℕ → List ℕ = λ rest. c.args.how.now ++ (decimal c.args.listed.files ++ (codes ", bytes: "
    ++ (decimal c.args.listed.bytes ++ (clashes_words c.args.clashes ++ rest)))) in
    let wrote = rw (
      c.format.ensures.text,
      c.format-2.ensures.text,
      c.format-3.ensures.text,
      c.clashes_words.ensures,
    ) at c.put_pieces.ensures in
    subst (λ text. Writes (g.W.Out.state c.args.out.now) (g.W.Out.state c.put_pieces.new.out) (before text) c.put_pieces.result)
    (sym (append_assoc c.profile_words.result.0.now c.profile_words.result.1.now tail)
    ∙ ap (λ said. said ++ tail) c.profile_words.ensures) wrote
