-- `field_bytes` puts a field's bytes at the start of nine.
use Rattle.std.proofs.Common.{arith, ◌/◌, ◌%◌, ◌≡◌, inl, inr}
use Rattle.words.specs.Words.{bytes_of}
use Rattle.score.specs.Fields.{len_of, written}
use Rattle.score.proofs.Written.{shape}
use Rattle.writer.proofs.field_bytes.Goals as goal
use Rattle.writer.proofs.field_bytes.Goals.{in-Write, in-Read, in-Levels}

pub returns : goal.returns
unfolding len_of written bytes_of
returns c =
    let t = c.args.f.stamp in
    let two : t / 65536 % 256 ≡ t / 256 / 256 % 256 = omega arith in
    let three : t / 16777216 % 256 ≡ t / 256 / 256 / 256 % 256 = omega arith in
    elim c.match-f.branch [
      | in-Write w ↦ rw (c.to_le_bytes.ensures, c.tag.ensures, c.length-n.ensures, w.first-is, w.in-Write.is, two, three)
      | in-Read w ↦ rw (c.to_le_bytes.ensures, c.tag.ensures, c.length-n.ensures, w.first-is, w.in-Read.is, two, three)
      | in-Levels w ↦
          rw (c.to_le_bytes.ensures, c.tag.ensures, c.length-n.ensures, w.first-is, two, three)
          (elim w.in-Levels.is [ inl e ↦ rw e | inr o ↦ elim o [ inl e ↦ rw e | inr e ↦ rw e ] ])
    ]

pub shared_ref_as_front-result : goal.shared_ref_as_front-result
shared_ref_as_front-result c = omega (arith, c.length-n.ensures, (shape c.args.f.stamp c.args.f.what).six)
