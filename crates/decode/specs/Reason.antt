-- The header checks behind that of the length, by the BTH and the length of all headers.
use Rattle.std.specs.Prelude.{ℕ, Bool, cond, not, eqb, ltb, Result, Ok, Err}
use Rattle.opcode.specs.Opcode.{service_of, low_of}
use Rattle.header.specs.Check.{pkeys_match, wrong_service, is_response, beyond_service}
use Rattle.header.specs.declared.Bth.{Bth}
use Rattle.header.specs.declared.Reason.{Reason}
use Rattle.header.specs.declared.Reason.TheVariants as reason

-- the first that fails: header_checks of the crate header
unfoldable pub bth_reason : ℕ → ℕ → ℕ → Bool → Bth → ℕ → ℕ → Result (Unit {0}) Reason
bth_reason service ours pkey ready b headers n =
    cond (not (eqb b.tver 0)) (Err reason.Version)
    (cond (not (eqb b.dest ours)) (Err reason.Number)
    (cond (not (pkeys_match b.pkey pkey)) (Err reason.Key)
    (cond (wrong_service (service_of b.opcode) service) (Err reason.Service)
    (cond (is_response (low_of b.opcode)) (Err reason.Response)
    (cond (beyond_service service (low_of b.opcode)) (Err reason.Unserved)
    (cond (ltb n headers) (Err reason.Short)
    (cond (not ready) (Err reason.NotReady) (Ok tt))))))))
