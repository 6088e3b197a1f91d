use Rattle.bag_cli.proofs.Common.{◌++◌, append_assoc, codes, decimal, cause_word}
use Rattle.bag_cli.proofs.making_line.put_step.Goals as goal

pub returns : goal.returns
returns g c =
    rw (
      c.format.ensures.text,
      c.word.ensures,
      ← append_assoc (decimal c.args.place) (codes " " ++ cause_word c.args.cause) (codes "\n"),
    ) at c.put_line.ensures
