use Rattle.bag_stages.proofs.Common.{arith, ◌≡◌, ◌∙◌, ◌++◌, ◌∷◌, ◌+◌, [], ℕ, List, ap, sym, subst, get_or, length, take}
use Rattle.bag_stages.proofs.Common.{algs, kind_of, Expected, Md5}
use Rattle.bag_stages.specs.Expected.{given}
use Rattle.bag_stages.specs.Packed.{packed, packed_one, unpacked}
use Rattle.bag_stages.proofs.GivenDigests.{spelled_bytes}
use Rattle.bag_stages.proofs.SumFaults.{all_faults, all_naming, no_more, none_yet, one_more, AreGivenBy}
use Rattle.bag_stages.proofs.UnpackedAgain.{all_unpacked, one_packed}
use Rattle.bag_stages.proofs.expected.expected_of.Goals as goal

pub loop-alg-init : goal.loop-alg-init
loop-alg-init c = (
  [],
  c.in_ok-bytes.ensures.items,
  λ bag facts deep. none_yet bag c.args.path.now c.kind_of-kind.result,
)

pub loop-alg-preserved-in_default : goal.loop-alg-preserved-in_default
loop-alg-preserved-in_default c =
    let so_far = c.loop-alg.invariant in (
      so_far.0,
      so_far.1,
      λ bag facts deep.
          no_more bag c.args.path.now c.kind_of-kind.result c.loop-alg.alg-index Md5 so_far.0 c.loop-alg-test.true
          (so_far.2 bag facts deep) (rw c.in_default.is at (c.digest_by.ensures bag facts deep)),
    )

pub loop-alg-preserved : goal.loop-alg-preserved
loop-alg-preserved c =
    let so_far = c.loop-alg.invariant in
    let alg = get_or algs c.loop-alg.alg-index Md5 in
    let digest = c.in-Some.digest.now in (
      so_far.0 ++ given alg (take 255 digest) ∷ [],
      c.in_ok-push_packed.ensures ∙ ap (λ bytes. bytes ++ packed_one (given alg (take 255 digest))) so_far.1
          ∙ sym (one_packed so_far.0 (given alg (take 255 digest))),
      λ bag facts deep.
          let path = c.args.path.now in
          let kind = c.kind_of-kind.result in
          let is = rw c.in-Some.is at (c.digest_by.ensures bag facts deep) in
          subst (λ bytes. AreGivenBy bag path kind (take (c.loop-alg.alg-index + 1) algs)
          (so_far.0 ++ given alg bytes ∷ [])) (sym (spelled_bytes bag path kind (given alg digest) is.1))
          (one_more bag path kind (c.kind_of-kind.ensures ∙ ap kind_of c.as_str.ensures) c.loop-alg.alg-index Md5
          so_far.0 (given alg digest) c.loop-alg-test.true (so_far.2 bag facts deep) is),
    )

pub returns-clause-algs : goal.returns-clause-algs
returns-clause-algs c = λ bag facts deep.
    let given = c.loop-alg.invariant in
    rw (c.of-2.ensures, c.shrink_to_fit.ensures.items, given.1, all_unpacked given.0)
    (all_naming bag c.args.path.now c.kind_of-kind.result (c.kind_of-kind.ensures ∙ ap kind_of c.as_str.ensures)
    c.loop-alg.alg-index given.0 c.loop-alg-test.false (given.2 bag facts deep))

pub returns-clause-faults : goal.returns-clause-faults
returns-clause-faults c = λ bag facts deep content there.
    let given = c.loop-alg.invariant in
    rw (c.of-2.ensures, c.shrink_to_fit.ensures.items, given.1, all_unpacked given.0)
    (all_faults bag c.args.path.now c.kind_of-kind.result (c.kind_of-kind.ensures ∙ ap kind_of c.as_str.ensures)
    c.loop-alg.alg-index given.0 c.loop-alg-test.false (given.2 bag facts deep) content there)

-- what is unpacked takes as many bytes as it was kept in
room_is : (expected result : List Expected) (bytes kept : List ℕ) (room : ℕ) → bytes ≡ packed expected → kept ≡ bytes
    → result ≡ unpacked kept → room ≡ length kept → room ≡ length (packed result)
room_is expected result bytes kept room are same unpacks is =
    is ∙ ap length (same ∙ are)
    ∙ ap (λ e. length (packed e)) (sym (unpacks ∙ ap unpacked (same ∙ are) ∙ all_unpacked expected))

pub returns-clause-room : goal.returns-clause-room
returns-clause-room c =
    let given = c.loop-alg.invariant in
    room_is given.0 c.of-2.result c.loop-alg.bytes.items c.shrink_to_fit.new.self.items _ given.1
    c.shrink_to_fit.ensures.items c.of-2.ensures
    (omega (arith, c.len-places.ensures, c.shrink_to_fit.new.self.ok.0))
