use Rattle.std.proofs.Common.{◌≡◌, ◌++◌}
use Rattle.wasm_codec.specs.Leb128.{unsigned_leb128}
use Rattle.wasm_codec.proofs.AppendLaws.{appended}
use Rattle.wasm_sections.proofs.data.append_data_mode.Goals as goal

pub returns-in_ok-reserve-in-Passive : goal.returns-in_ok-reserve-in-Passive
returns-in_ok-reserve-in-Passive g c =
    let first : c.put_u32.new.bytes.items ≡ c.args.sink.now.items ++ unsigned_leb128 1 = rw (← c.in_ok-reserve-in-Passive.ensures.items) c.put_u32.ensures.items in
    rw c.in-Passive.is (appended first tt (λ closed. tt))
