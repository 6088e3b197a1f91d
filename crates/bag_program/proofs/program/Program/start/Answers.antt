use Rattle.bag_program.proofs.Common.{inl, inr, [], refl, ap, ◌∙◌, append-nil, visits_of}
use Rattle.std.proofs.Common.{sym}
use Rattle.std.specs.Prelude.{Err}
use Rattle.bag_program.specs.Folders.{disks_of}
use Rattle.bag_program.proofs.Runs.{words_run}
use Rattle.bag_program.specs.NoWords.{no_words_status}
use Rattle.bag_program.proofs.program.Program.start.Goals as goal

pub returns-in-Err : goal.returns-in-Err
returns-in-Err g c = (
  [],
  sym (append-nil (visits_of c.args.visits.now)),
  elim c.in-Err.ensures [
    | inl answered ↦ inr (Err c.in-Err.why, answered, (c.tell.ensures.status, refl, refl))
    | inr memory ↦ inl (c.tell.ensures.status ∙ ap no_words_status memory, refl, refl)
  ],
)

pub returns-in-Ok-texts_of : goal.returns-in-Ok-texts_of
returns-in-Ok-texts_of g c =
    let done = c.run.ensures in
    let disks = disks_of c.args.folders.now in
    words_run (g.Self.Program.does (g.D.Disks.below disks) (g.D.Disks.archived disks) (g.D.Disks.reported disks) (g.D.Disks.file disks))
    (visits_of c.args.visits.now) c.in-Ok.words.items c.in-Ok.ensures (
      done.0,
      done.1,
      rw (c.deref-in-Ok-texts_of.ensures.value, c.in-Ok-texts_of.ensures, c.deref.ensures.value) at done.2,
    )

pub returns : goal.returns
returns g c = (
  [],
  sym (append-nil (visits_of c.args.visits.now)),
  inl (c.tell-in-Err-texts_of.ensures.status, refl, refl),
)
