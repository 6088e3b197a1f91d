use Rattle.bag_text.proofs.Common.{◌≡◌, ◌∙◌, sym, ap, subst, true, ◌+◌, ◌<◌, length, get_or, PathPart}
use Rattle.bag_text.proofs.Paths.{is_slash, not_slash}
use Rattle.bag_text.proofs.PathReading.{IsReadTo, read_start, read_byte, read_slash}
use Rattle.bag_text.proofs.path.check_path.Goals.{then-byte-ne-SLASH, else-byte-ne-SLASH+then-is_name}
use Rattle.bag_text.proofs.path.check_path.Goals as goal

pub loop-byte-init : goal.loop-byte-init
loop-byte-init c = read_start c.args.text.now

pub loop-byte-preserved : goal.loop-byte-preserved
loop-byte-preserved c =
    let text = c.args.text.now in
    let place = c.loop-byte.byte-index in
    let within : place < length text = rw c.as_bytes-byte-items.ensures.value at c.loop-byte-test.true in
    elim c.if-byte-ne-SLASH.branch [
      | then-byte-ne-SLASH w ↦ (
          let other =
          not_slash (get_or text place 0) (rw c.as_bytes-byte-items.ensures.value at w.if-byte-ne-SLASH.true) in
          let made = rw c.as_bytes-byte-items.ensures.value at w.with-part.ensures in
          subst (λ (x : PathPart). IsReadTo x text (place + 1)) (sym (w.part-is ∙ made))
          (read_byte c.loop-byte.part text place within other c.loop-byte.invariant))
      | else-byte-ne-SLASH+then-is_name w ↦ (
          let slash : is_slash (get_or text place 0) ≡ true =
          ap is_slash (rw c.as_bytes-byte-items.ensures.value at w.if-byte-ne-SLASH.false) in
          subst (λ (x : PathPart). IsReadTo x text (place + 1)) (sym w.part-is)
          (read_slash c.loop-byte.part text place within slash (sym w.is_name.ensures ∙ w.if-is_name.true)
          c.loop-byte.invariant))
    ]
