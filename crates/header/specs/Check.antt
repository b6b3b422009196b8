-- The header checks of a queue pair, each a quiet drop.
use Rattle.std.specs.Prelude.{ℕ, ◌%◌, Bool, cond, not, ◌&&◌, ◌||◌, List, Result, Ok, Err, leb, ltb, eqb, length}
use Rattle.opcode.specs.Opcode.{class_of, service_of, low_of, uc_has}
use Rattle.opcode.specs.Kind as Kind
use Rattle.opcode.specs.Service as Service
use Rattle.header.specs.Read.{bth_of, bad_length, other_service, read_check, read_by}
use Rattle.header.specs.declared.Header.{Header}
use Rattle.header.specs.declared.Reason.{Reason}
use Rattle.header.specs.declared.Reason.TheVariants as reason

-- the top bit of a P_Key
abbrev pub pkey_top : ℕ
pkey_top = 32768

-- a P_Key with its top bit: a full member; without it a limited one
unfoldable pub full_member : ℕ → Bool
full_member pkey = leb pkey_top pkey

-- two P_Keys match: their 15 low bits agree and are not all 0, and one of them, or both, is a full member's
unfoldable pub pkeys_match : ℕ → ℕ → Bool
pkeys_match theirs ours =
    eqb (theirs % pkey_top) (ours % pkey_top)
    && (not (eqb (theirs % pkey_top) 0) && (full_member theirs || full_member ours))

-- service bits that are not the pair's; no pair has a service but RC and UC
unfoldable pub wrong_service : ℕ → ℕ → Bool
wrong_service theirs ours = other_service theirs || not (eqb theirs ours)

-- the opcodes that a responder drops: responses
unfoldable pub is_response : ℕ → Bool
is_response low = leb Kind.read_response low && leb low Kind.atomic_acknowledge

-- an opcode that the pair's service, where it is UC, does not have
unfoldable pub beyond_service : ℕ → ℕ → Bool
beyond_service service low = eqb service Service.uc && not (uc_has low)

-- the header check that fails first
unfoldable pub header_checks : ℕ → ℕ → ℕ → Bool → List ℕ → Result (Unit {0}) Reason
header_checks service ours pkey ready p =
    cond (bad_length (length p)) (Err reason.Length)
    (cond (not (eqb (bth_of p).tver 0)) (Err reason.Version)
    (cond (not (eqb (bth_of p).dest ours)) (Err reason.Number)
    (cond (not (pkeys_match (bth_of p).pkey pkey)) (Err reason.Key)
    (cond (wrong_service (service_of (bth_of p).opcode) service) (Err reason.Service)
    (cond (is_response (low_of (bth_of p).opcode)) (Err reason.Response)
    (cond (beyond_service service (low_of (bth_of p).opcode)) (Err reason.Unserved)
    (cond (ltb (length p) (class_of (bth_of p).opcode).length) (Err reason.Short)
    (cond (not ready) (Err reason.NotReady) (Ok tt)))))))))

-- its number, or 0
unfoldable pub header_reason : ℕ → ℕ → ℕ → Bool → List ℕ → ℕ
header_reason service ours pkey ready p = read_check (header_checks service ours pkey ready p)

-- the header, or the check that failed
unfoldable pub admitted : ℕ → ℕ → ℕ → Bool → List ℕ → Result Header Reason
admitted service ours pkey ready p = read_by (header_checks service ours pkey ready p) p
