-- The syndromes of an AETH. A not-ready NAK's is that plus the timer code.
use Rattle.std.specs.Prelude.{ℕ}

abbrev pub ack : ℕ
ack = 31

abbrev pub not_ready : ℕ
not_ready = 32

abbrev pub sequence : ℕ
sequence = 96

abbrev pub invalid_request : ℕ
invalid_request = 97

abbrev pub access : ℕ
access = 98
