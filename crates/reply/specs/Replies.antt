-- The replies to QUERY_FW, QUERY_PORT and QUERY_FUNC: the fields that the Rust's `query_fw`, `port_info` and `bring_up` read, at their offsets. A reply too
-- short for its last field is 21.
-- Public document: ConnectX-3 Programmer's Reference Manual, these three commands. It was not at
-- hand: the offsets are the Rust's.
use Rattle.std.specs.Prelude.{ℕ, ◌+◌, ◌*◌, ◌/◌, ◌%◌, Bool, false, ◌||◌, not, List, [], ◌∷◌, length, replicate, ltb, eqb, Result, Ok, Err}
use Rattle.fields.specs.Fields.{be}
use Rattle.fields.specs.Outcome.{Outcome, value, refused, pick}
use Rattle.fields.specs.declared.Short.{Short}
use Rattle.reply.specs.declared.FwInfo.{FwInfo}
use Rattle.reply.specs.declared.FwRefusal.{FwRefusal}
use Rattle.reply.specs.declared.FwRefusal.TheVariants as fw
use Rattle.reply.specs.declared.PortInfo.{PortInfo}
use Rattle.reply.specs.declared.FuncInfo.{FuncInfo}
use Rattle.reply.specs.Capability.{byte, bit}

-- the catastrophic buffer's BAR: the two high bits of byte 0x3c, doubled, are a BAR register; register 2 is the UAR BAR, whose index was chosen
abbrev pub catas_bar_value : (register uarBar : ℕ) → ℕ
catas_bar_value r u = pick (eqb r 2) u r

abbrev pub fw_of : List ℕ → (uarBar : ℕ) → FwInfo
fw_of s uarBar =
    record {
      pages = be s 0x00 2;
      major = be s 0x02 2;
      subminor = be s 0x04 2;
      minor = be s 0x06 2;
      ppf = byte s 0x09;
      rev = be s 0x0a 2;
      log_max_cmds = byte s 0x0f;
      catas_offset = be s 0x30 8;
      catas_size = be s 0x38 4;
      catas_bar = catas_bar_value (byte s 0x3c / 64 * 2) uarBar;
    }

abbrev pub no_fw : FwInfo
no_fw =
    record { pages = 0; major = 0; subminor = 0; minor = 0; ppf = 0; rev = 0; log_max_cmds = 0; catas_offset = 0; catas_size = 0; catas_bar = 0 }

abbrev pub two_or_three : ℕ → Bool
two_or_three n = eqb n 2 || eqb n 3

-- "11 revision not 2 or 3 (revision)"
abbrev pub query_fw_of : List ℕ → (uarBar : ℕ) → Outcome FwInfo
query_fw_of s uarBar =
    pick (ltb (length s) 0x3d) (refused 21 [])
    (pick (not (two_or_three (be s 0x0a 2))) (refused 11 (be s 0x0a 2 ∷ []))
    (value (fw_of s uarBar)))

-- what is known of the firmware: the fields, also of a revision that is refused (its catastrophic buffer is known); nothing of a short reply
abbrev pub fw_held : List ℕ → (uarBar : ℕ) → FwInfo
fw_held s uarBar = pick (ltb (length s) 0x3d) no_fw (fw_of s uarBar)

abbrev pub query_fw : Result FwInfo FwRefusal → Outcome FwInfo
query_fw (Ok i) = value i
query_fw (Err fw.Short) = refused 21 []
query_fw (Err (fw.Revision i)) = refused 11 (i.rev ∷ [])

abbrev pub fw_in : Result FwInfo FwRefusal → FwInfo
fw_in (Ok i) = i
fw_in (Err fw.Short) = no_fw
fw_in (Err (fw.Revision i)) = i

-- bits 0 to 3, 5 and 6 of byte 5
abbrev pub speed_of : ℕ → ℕ
speed_of b = b % 16 + b / 32 % 4 * 32

abbrev pub mac_of : List ℕ → List ℕ
mac_of s = byte s 0x12 ∷ byte s 0x13 ∷ byte s 0x14 ∷ byte s 0x15 ∷ byte s 0x16 ∷ byte s 0x17 ∷ []

abbrev pub port_of : List ℕ → (num : ℕ) → PortInfo
port_of s num =
    record {
      num = num;
      link_up = bit 7 (byte s 0x00);
      b0 = byte s 0x00;
      mtu_cap = be s 0x02 2;
      log_macs = byte s 0x0a % 16;
      mac = mac_of s;
      autoneg = bit 7 (byte s 0x01);
      an_complete = bit 6 (byte s 0x00);
      speed = speed_of (byte s 0x05);
      xcvr = be s 0x18 4;
      wavelength = be s 0x1c 2;
      xcvr_code = be s 0x20 8;
    }

abbrev pub no_port : PortInfo
no_port =
    record {
      num = 0;
      link_up = false;
      b0 = 0;
      mtu_cap = 0;
      log_macs = 0;
      mac = replicate 6 0;
      autoneg = false;
      an_complete = false;
      speed = 0;
      xcvr = 0;
      wavelength = 0;
      xcvr_code = 0;
    }

abbrev pub query_port_of : List ℕ → (num : ℕ) → Outcome PortInfo
query_port_of s num = pick (ltb (length s) 0x28) (refused 21 []) (value (port_of s num))

abbrev pub query_port : Result PortInfo Short → Outcome PortInfo
query_port (Ok i) = value i
query_port (Err e) = refused 21 []

-- what QUERY_FUNC replaces
abbrev pub func_of : List ℕ → FuncInfo
func_of s = record { rsvd_eqs = be s 0x04 2; max_eqs = be s 0x06 2; rsvd_uars = byte s 0x0b % 16 }

abbrev pub query_func_of : List ℕ → Outcome FuncInfo
query_func_of s = pick (ltb (length s) 0x0c) (refused 21 []) (value (func_of s))

abbrev pub query_func : Result FuncInfo Short → Outcome FuncInfo
query_func (Ok i) = value i
query_func (Err e) = refused 21 []
