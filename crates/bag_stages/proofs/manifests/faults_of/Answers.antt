use Rattle.bag_stages.proofs.Common.{ap, is_some, refl, sym}
use Rattle.bag_stages.proofs.ManifestFaults.{read_payload_manifest, read_tag_manifest, said_lines}
use Rattle.bag_stages.proofs.ReadManifest.{listed_by}
use Rattle.bag_stages.proofs.manifests.faults_of.Goals as goal

pub returns-in-Payload : goal.returns-in-Payload
returns-in-Payload c = λ bag facts said.
    let m = c.args.manifest.now in
    let lines =
    said_lines bag m c.in_ok-path.path c.in_ok-of_lines.of_lines.items said c.in_ok-path.ensures
    (rw (sym c.as_slice.ensures) c.in_ok-of_lines.ensures) in
    read_payload_manifest bag m.kind m.alg c.in_ok-of_lines.of_lines.items c.in-Payload.is lines

pub returns : goal.returns
returns c = λ bag facts said.
    let m = c.args.manifest.now in
    let lines =
    said_lines bag m c.in_ok-path.path c.in_ok-of_lines.of_lines.items said c.in_ok-path.ensures
    (rw (sym c.as_slice.ensures) c.in_ok-of_lines.ensures) in
    rw c.in_ok-append-in-Tag.ensures.items
    (read_tag_manifest bag c.args.facts.now.listing.files m.kind m.alg c.in_ok-path.path m.entries
    c.in_ok-faults-in-Tag.faults.items c.in_ok-of_lines.of_lines.items c.in-Tag.is facts.listing.files
    (ap is_some said.1) (listed_by bag m.kind m.alg m said.0 said.1 (said.2, refl, refl)) c.in_ok-path.ensures
    (c.in_ok-faults-in-Tag.ensures bag facts) lines)
