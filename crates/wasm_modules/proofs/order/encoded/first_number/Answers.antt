use Rattle.std.proofs.Common.{◌∙◌, ap}
use Rattle.wasm_codec.specs.Places.{Place}
use Rattle.wasm_codec.proofs.FormatLaws.{Lawful-u32}
use Rattle.wasm_modules.proofs.SkippingLaws.{is_read, same_read, fault_is_none}
use Rattle.wasm_modules.proofs.order.encoded.first_number.Goals as goal

pub returns-in-Ok : goal.returns-in-Ok
returns-in-Ok c prefix rest n parts g =
    (same_read (is_read Lawful-u32 c.new.result prefix rest n (ap (λ (p : Place). p.left) c.new.ensures ∙ parts) g) c.in-Ok.ensures.reads).1

pub returns-in-Err : goal.returns-in-Err
returns-in-Err c prefix rest n parts g =
    fault_is_none (is_read Lawful-u32 c.new.result prefix rest n (ap (λ (p : Place). p.left) c.new.ensures ∙ parts) g) c.u32.new.self c.in-Err.field-0 c.in-Err.ensures.reads c.in-Err.ensures.err
