use Rattle.std.proofs.Common.{◌≡◌, take, drop, ap, ◌∙◌}
use Rattle.std.specs.Prelude.{nat_eq, slice_index}
use Rattle.std.specs.Int.{w64, from_be_bytes}
use Rattle.sal_carriage.proofs.Reading.{range_end}
use Rattle.sal_carriage.proofs.frame.Frame.cut.Goals as goal

pub returns : goal.returns
returns c =
    let program : c.eight.result ≡ take 8 c.args.bytes.now = c.eight.ensures in
    let number : c.from_be_bytes.result ≡ from_be_bytes w64 (take 8 (drop 11 c.args.bytes.now)) = c.from_be_bytes.ensures ∙ ap (from_be_bytes w64) c.eight-2.ensures in
    let wanted : c.from_be_bytes-2.result ≡ from_be_bytes w64 (take 8 (drop 19 c.args.bytes.now)) = c.from_be_bytes-2.ensures ∙ ap (from_be_bytes w64) c.eight-3.ensures in
    let payload = range_end c.args.bytes.now in
    λ i. record {
      program = program i;
      from = slice_index c.args.bytes.now 8;
      to = slice_index c.args.bytes.now 9;
      is_data = nat_eq (slice_index c.args.bytes.now 10) 0;
      number = number i;
      wanted = wanted i;
      last = nat_eq (slice_index c.args.bytes.now 27) 1;
      payload = payload i;
    }
