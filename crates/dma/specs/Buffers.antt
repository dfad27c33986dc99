-- Buffers: how many pages one has, and which device addresses can be used. Document 01, "A page is 4,096 bytes."
use Rattle.std.specs.Prelude.{ℕ, ◌+◌, ◌-◌, ◌*◌, ◌/◌, ◌%◌, ◌^◌, max, Bool, ◌&&◌, [], ◌==◌, nat_le, Result, Ok, Err}
use Rattle.fields.specs.Outcome.{Outcome, value, refused, pick}
use Rattle.dma.specs.declared.BadAddress.{BadAddress}

-- a whole number of pages, "A buffer of 0 bytes has one page."; 18 where the bytes are "above 2^64 − 4,096"
abbrev pub pages_for : ℕ → Outcome ℕ
pages_for bytes = pick (nat_le bytes (2 ^ 64 - 4096)) (value (max 1 ((bytes + 4095) / 4096))) (refused 18 [])

abbrev pub is_page : ℕ → Bool
is_page address = address % 4096 == 0

-- "its end above 2^64, or bytes above 2^64 − 4,096": neither is so. An end of exactly 2^64 is good
abbrev pub ends_within : (at bytes : ℕ) → Bool
ends_within at bytes = nat_le bytes (2 ^ 64 - 4096) && nat_le (at + bytes) (2 ^ 64)

-- 18: "device address no page multiple, its end above 2^64, or bytes above 2^64 − 4,096"
abbrev pub accept_at : (dev pages : ℕ) → Outcome Unit
accept_at dev pages = pick (is_page dev && ends_within dev (pages * 4096)) (value tt) (refused 18 [])

-- what each answer stands for
abbrev pub page_count : Result ℕ BadAddress → Outcome ℕ
page_count (Ok n) = value n
page_count (Err e) = refused 18 []

abbrev pub accepted : Result Unit BadAddress → Outcome Unit
accepted (Ok u) = value tt
accepted (Err e) = refused 18 []
