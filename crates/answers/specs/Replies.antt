-- What the card's replies give as words.
use Rattle.std.specs.Prelude.{ℕ, Bool, true, false, List, [], ◌∷◌, get_or, replicate, Option, Some, None}
use Rattle.fields.specs.Outcome.{Outcome, value, refused, number_of}
use Rattle.reply.specs.declared.DevCap.{DevCap}
use Rattle.reply.specs.declared.FwInfo.{FwInfo}
use Rattle.reply.specs.declared.PortInfo.{PortInfo}
use Rattle.reply.specs.declared.FuncInfo.{FuncInfo}
use Rattle.answers.specs.Words.{bit, beside_of}
use Rattle.answers.specs.declared.replies.Code.{Code}

abbrev pub size_from : (known : Bool) → ℕ → Option ℕ
size_from true n = Some n
size_from false n = None

-- a refusal's number and the value beside it
abbrev pub code_of : {A : Type 0} → Outcome A → Code
code_of o = record { number = number_of o; beside = beside_of o }

abbrev pub cap_words : Code → DevCap → List ℕ
cap_words k c =
    k.number ∷ k.beside
    ∷ c.rsvd_qps ∷ c.rsvd_srqs ∷ c.rsvd_cqs ∷ c.rsvd_eqs ∷ c.max_eqs ∷ c.rsvd_mtts ∷ c.rsvd_mpts ∷ c.rsvd_uars ∷ c.rsvd_pds
    ∷ c.num_sys_eqs ∷ c.ports ∷ c.log_max_qp_wqes ∷ c.log_max_cqes ∷ c.log_min_page
    ∷ c.flags ∷ c.flags2 ∷ c.bmme ∷ bit c.eth_prot_ctrl ∷ bit c.eth_backpl_an_rep
    ∷ c.uar_bytes ∷ c.max_icm
    ∷ get_or c.entry 0 0 ∷ get_or c.entry 1 0 ∷ get_or c.entry 2 0 ∷ get_or c.entry 3 0 ∷ get_or c.entry 4 0 ∷ get_or c.entry 5 0
    ∷ get_or c.entry 6 0 ∷ get_or c.entry 7 0 ∷ get_or c.entry 8 0 ∷ get_or c.entry 9 0 ∷ get_or c.entry 10 0
    ∷ []

abbrev pub fw_words : Code → FwInfo → List ℕ
fw_words k i =
    k.number ∷ k.beside
    ∷ i.pages ∷ i.major ∷ i.subminor ∷ i.minor ∷ i.ppf ∷ i.rev ∷ i.log_max_cmds ∷ i.catas_offset ∷ i.catas_size ∷ i.catas_bar
    ∷ []

abbrev pub port_words : (number : ℕ) → PortInfo → List ℕ
port_words k i =
    k ∷ i.num ∷ bit i.link_up ∷ i.b0 ∷ i.mtu_cap ∷ i.log_macs
    ∷ get_or i.mac 0 0 ∷ get_or i.mac 1 0 ∷ get_or i.mac 2 0 ∷ get_or i.mac 3 0 ∷ get_or i.mac 4 0 ∷ get_or i.mac 5 0
    ∷ bit i.autoneg ∷ bit i.an_complete ∷ i.speed ∷ i.xcvr ∷ i.wavelength ∷ i.xcvr_code
    ∷ []

abbrev pub func_words : Outcome FuncInfo → List ℕ
func_words (value i) = 0 ∷ i.rsvd_eqs ∷ i.max_eqs ∷ i.rsvd_uars ∷ []
func_words (refused k vs) = k ∷ replicate 3 0
