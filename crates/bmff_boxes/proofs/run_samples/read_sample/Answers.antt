use Rattle.std.proofs.Common.{◌≡◌, ◌+◌, ◌∙◌, ap, arith}
use Rattle.std.specs.Option.{option_map}
use Rattle.bmff_boxes.specs.Fields.{optional_len, optional_field}
use Rattle.bmff_boxes.specs.FragmentFields.{composition_offset}
use Rattle.bmff_boxes.proofs.RunLaws.{sample-told}
use Rattle.bmff_boxes.proofs.run_samples.read_sample.Goals as goal

pub returns : goal.returns
returns c =
    let p = c.args.p.now in
    let f = c.args.fields.now in
    let at = c.args.at in
    let size : at + f.size ≡ at + optional_len f.flags 0x100 4 = omega (arith, c.requires.size) in
    let flags : at + f.sample_flags ≡ at + optional_len f.flags 0x100 4 + optional_len f.flags 0x200 4 = omega (arith, c.requires.sample_flags) in
    let offset : at + f.offset ≡ at + optional_len f.flags 0x100 4 + optional_len f.flags 0x200 4 + optional_len f.flags 0x400 4 = omega (arith, c.requires.offset) in
    sample-told p _ _ _ _ _ _ _ _ c.read_optional_u32.ensures (c.read_optional_u32-2.ensures ∙ ap (λ x. optional_field f.flags 0x200 4 x p) size) (c.read_optional_u32-3.ensures ∙ ap (λ x. optional_field f.flags 0x400 4 x p) flags)
    (c.read_optional_offset.ensures ∙ ap (λ x. option_map (option_map (composition_offset p)) (optional_field f.flags 0x800 4 x p)) offset)
