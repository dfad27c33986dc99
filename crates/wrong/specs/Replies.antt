-- WRONG ANSWERS of the functions on replies, the layout and the mailboxes of bring-up, as in `specs/Wrong.antt`. The theorem is `replies_refused`.
use Rattle.std.specs.Prelude.{ℕ, ◌+◌, ◌^◌, ◌&&◌, List, [], ◌∷◌, ◌++◌, set, take, drop, replicate, Some, None}
use Rattle.std.specs.Int.Count.{count_trailing_zeros}
use Rattle.fields.specs.Outcome.{Outcome, value, value_or, number_of}
use Rattle.fields.specs.Fields.{put_at}
use Rattle.fields.specs.declared.Order.TheVariants.{Big}
use Rattle.reply.specs.Capability.{bit, dev_cap_of, no_caps, capability_of, refused_by}
use Rattle.reply.specs.Replies.{no_fw, query_fw_of, fw_held, no_port, query_port_of, query_func_of}
use Rattle.reply.specs.declared.DevCap.{DevCap}
use Rattle.reply.specs.declared.CapRefusal.{CapRefusal}
use Rattle.reply.specs.declared.CapRefusal.TheVariants as k
use Rattle.reply.specs.declared.FwInfo.{FwInfo}
use Rattle.reply.specs.declared.PortInfo.{PortInfo}
use Rattle.reply.specs.declared.FuncInfo.{FuncInfo}
use Rattle.layout.specs.Layout.{pow2_of, no_table, no_layout, rows_of, table_in, layout_of, misfit_by}
use Rattle.layout.specs.Counts.{base_sqpn, first_free_mtt, counts_of, profile_of}
use Rattle.layout.specs.declared.Table.{Table}
use Rattle.layout.specs.declared.Range.{Range}
use Rattle.layout.specs.declared.Layout.{Layout}
use Rattle.layout.specs.declared.Misfit.{Misfit}
use Rattle.layout.specs.declared.Misfit.TheVariants as f
use Rattle.init.specs.Init.{field, put_all, filled_by, fill_of, fields_of, init_of, mod_stat_cfg}
use Rattle.init.specs.declared.Field.{Field}
use Rattle.init.specs.declared.InitHca.{InitHca}
use Rattle.wrong.specs.Wrong.{Row, row, told_by, told_unit, yes}

-- accepted, or the refusal's number and values
abbrev pub said : {A : Type 0} → Outcome A → List ℕ
said o = told_by (λ x. []) o

-- a capability reply of 168 bytes: offset, width, value
abbrev cap_reply : List ℕ
cap_reply =
    put_all (replicate 168 0)
    (field 0x11 1 14 ∷ field 0x12 1 0x56 ∷ field 0x14 1 0x54 ∷ field 0x19 1 22 ∷ field 0x1a 1 0x57 ∷ field 0x1e 1 0x52 ∷ field 0x1f 1 0x68 ∷ field 0x20 1 0x05 ∷ field 0x22 1 0x74
    ∷ field 0x26 2 0xf000 ∷ field 0x37 1 0x32 ∷ field 0x40 8 0x0001060000000000 ∷ field 0x48 1 0x35 ∷ field 0x49 1 0xc3 ∷ field 0x4b 1 12 ∷ field 0x64 1 0x27
    ∷ field 0x70 4 0x11121314 ∷ field 0x7a 1 0x20 ∷ field 0x80 2 32 ∷ field 0x82 2 256 ∷ field 0x84 2 16 ∷ field 0x86 2 64 ∷ field 0x88 2 128 ∷ field 0x8a 2 512 ∷ field 0x8c 2 2048
    ∷ field 0x8e 2 4096 ∷ field 0x90 2 8 ∷ field 0x92 2 1 ∷ field 0x94 4 0x200 ∷ field 0x9c 4 0x31323335 ∷ field 0xa0 8 0x400015a000 ∷ [])

-- with 200 system EQs
abbrev sys_reply : List ℕ
sys_reply = put_at Big cap_reply 0x26 2 0xf0c8

abbrev pub cap_numbers : DevCap → List ℕ
cap_numbers c =
    c.rsvd_qps ∷ c.rsvd_srqs ∷ c.rsvd_cqs ∷ c.rsvd_eqs ∷ c.max_eqs ∷ c.rsvd_mtts ∷ c.rsvd_mpts ∷ c.rsvd_uars ∷ c.rsvd_pds ∷ c.num_sys_eqs
    ∷ c.ports ∷ c.log_max_qp_wqes ∷ c.log_max_cqes ∷ c.log_min_page ∷ c.flags ∷ c.flags2 ∷ c.bmme ∷ yes c.eth_prot_ctrl ∷ yes c.eth_backpl_an_rep
    ∷ c.uar_bytes ∷ (c.entry ++ (c.max_icm ∷ []))

-- its answers with the BAR's size unknown
abbrev caps : List ℕ → Outcome DevCap
caps reply = capability_of reply None

-- a function of each refusal: short, the smallest page, ports, the UAR field, the UAR area
abbrev checks : (CapRefusal → ℕ) → List ℕ
checks t = t k.Short ∷ t (k.MinPage 13) ∷ t (k.Ports 3) ∷ t (k.Uar 44) ∷ t (k.UarArea 7) ∷ []

-- both VEP steering capabilities
abbrev steers : ℕ → ℕ
steers flags = yes (bit 41 flags && bit 42 flags)

-- what it says, as `cap_numbers` tells it
abbrev caps_are : List ℕ
caps_are =
    64 ∷ 32 ∷ 128 ∷ 12 ∷ 256 ∷ 1 ∷ 16 ∷ 3 ∷ 2 ∷ 0 ∷ 2 ∷ 14 ∷ 22 ∷ 12 ∷ 0x0001060000000000 ∷ 0x11121314 ∷ 0x200 ∷ 1 ∷ 1 ∷ 0x800000 ∷ 256 ∷ 32 ∷ 64 ∷ 16 ∷ 2048 ∷ 512 ∷ 128 ∷ 1
    ∷ 4096 ∷ 8 ∷ 1024 ∷ 0x400015a000 ∷ []

-- reply: QUERY_DEV_CAP
abbrev pub capabilities : List Row
capabilities =
    -- CapRefusal::number: 20 for a short reply; 14 and 15 exchanged
    row (checks (λ c. number_of (refused_by c))) (20 ∷ 12 ∷ 13 ∷ 14 ∷ 15 ∷ []) (21 ∷ 12 ∷ 13 ∷ 15 ∷ 14 ∷ []) ∷
    -- flag (41, 43, 64): one bit too low; the number modulo 64
    row (yes (bit 41 0x0001060000000001) ∷ yes (bit 43 0x0001060000000001) ∷ yes (bit 64 0x0001060000000001) ∷ []) (0 ∷ 1 ∷ 0 ∷ []) (1 ∷ 0 ∷ 1 ∷ []) ∷
    -- b0 (41 alone, 41 and 42, 41 and 43): by the first alone; by 43 for 42
    row (steers 0x20000000000 ∷ steers 0x60000000000 ∷ steers 0xa0000000000 ∷ []) (1 ∷ 1 ∷ 1 ∷ []) (0 ∷ 0 ∷ 1 ∷ []) ∷
    -- DevCap::none: counts of 1; the MCG entry kept
    row (cap_numbers no_caps)
    (1 ∷ 1 ∷ 1 ∷ 1 ∷ 1 ∷ 1 ∷ 1 ∷ 0 ∷ 0 ∷ 0 ∷ 0 ∷ 0 ∷ 0 ∷ 0 ∷ 0 ∷ 0 ∷ 0 ∷ 0 ∷ 0 ∷ 0 ∷ 0 ∷ 0 ∷ 0 ∷ 0 ∷ 0 ∷ 0 ∷ 0 ∷ 0 ∷ 0 ∷ 0 ∷ 0 ∷ 0 ∷ [])
    (0 ∷ 0 ∷ 0 ∷ 0 ∷ 0 ∷ 0 ∷ 0 ∷ 0 ∷ 0 ∷ 0 ∷ 0 ∷ 0 ∷ 0 ∷ 0 ∷ 0 ∷ 0 ∷ 0 ∷ 0 ∷ 0 ∷ 0 ∷ 0 ∷ 0 ∷ 0 ∷ 0 ∷ 0 ∷ 0 ∷ 0 ∷ 0 ∷ 0 ∷ 0 ∷ 1024 ∷ 0 ∷ []) ∷
    -- dev_cap: the QPC and RDMARC entries from each other's offset; another MCG entry
    row (told_by cap_numbers (caps cap_reply)) (0 ∷ set (set caps_are 20 32) 21 256) (0 ∷ set caps_are 30 512) ∷
    -- dev_cap: the low bits for the reserved SRQs; a log for a count
    row (told_by cap_numbers (caps cap_reply)) (0 ∷ set caps_are 1 16) (0 ∷ set caps_are 0 6) ∷
    -- dev_cap: the UAR area in bytes, not megabytes; the top bits of the system EQs kept
    row (told_by cap_numbers (caps cap_reply)) (0 ∷ set caps_are 19 8) (0 ∷ set caps_are 9 0xf000) ∷
    -- dev_cap, no system EQs: reserved EQs not raised to four for each reserved UAR; ports with their top bits
    row (told_by cap_numbers (caps cap_reply)) (0 ∷ set caps_are 3 4) (0 ∷ set caps_are 10 0x32) ∷
    -- dev_cap, 200 system EQs: reserved EQs raised all the same; no system EQs
    row (told_by cap_numbers (caps sys_reply)) (0 ∷ set caps_are 9 200) (0 ∷ set caps_are 3 4) ∷
    -- dev_cap: flags in the other order; the low half of the ICM limit
    row (told_by cap_numbers (caps cap_reply)) (0 ∷ set caps_are 14 0x60100) (0 ∷ set caps_are 31 0x15a000) ∷
    -- dev_cap, refused (160 bytes): taken; refused with 20
    row (said (caps (take 160 cap_reply))) (0 ∷ []) (20 ∷ []) ∷
    -- dev_cap, refused (167 bytes): taken; refused with 12
    row (said (caps (take 167 cap_reply))) (0 ∷ []) (12 ∷ 12 ∷ []) ∷
    -- dev_cap, refused (a smallest page of 2^13): taken; without the exponent
    row (said (caps (set cap_reply 0x4b 13))) (0 ∷ []) (12 ∷ []) ∷
    -- dev_cap (a smallest page of 2^12): refused; refused as ports
    row (said (caps cap_reply)) (12 ∷ 12 ∷ []) (13 ∷ 2 ∷ []) ∷
    -- dev_cap, refused (three ports): taken; the whole byte beside it
    row (said (caps (set cap_reply 0x37 0x33))) (0 ∷ []) (13 ∷ 0x33 ∷ []) ∷
    -- dev_cap, refused (no ports): taken; without the ports
    row (said (caps (set cap_reply 0x37 0x30))) (0 ∷ []) (13 ∷ []) ∷
    -- dev_cap (two ports): refused; the whole byte looked at
    row (said (caps (set cap_reply 0x37 0x32))) (13 ∷ 2 ∷ []) (13 ∷ 0x32 ∷ []) ∷
    -- dev_cap, refused (a UAR field of 44): taken; the whole byte beside it
    row (said (caps (set cap_reply 0x49 0xec))) (0 ∷ []) (14 ∷ 0xec ∷ []) ∷
    -- dev_cap (a UAR field of 43): refused; refused with 15
    row (said (caps (set cap_reply 0x49 0xeb))) (14 ∷ 43 ∷ []) (15 ∷ 0x8000000000000000 ∷ []) ∷
    -- dev_cap, an area that just fills its BAR: refused; refused with the field
    row (said (capability_of cap_reply (Some 0x800000))) (15 ∷ 0x800000 ∷ []) (14 ∷ 3 ∷ []) ∷
    -- dev_cap, refused (an area above its BAR): taken; the BAR's size beside it
    row (said (capability_of cap_reply (Some 0x7fffff))) (0 ∷ []) (15 ∷ 0x7fffff ∷ []) ∷
    -- dev_cap, refused (page and ports): the ports first; taken
    row (said (caps (set (set cap_reply 0x4b 13) 0x37 3))) (13 ∷ 3 ∷ []) (0 ∷ []) ∷
    -- dev_cap, refused, what is held: the fields; counts of 1
    row (take 3 (cap_numbers (value_or no_caps (caps (set cap_reply 0x37 0x33))))) (64 ∷ 32 ∷ 128 ∷ []) (1 ∷ 1 ∷ 1 ∷ []) ∷
    []

-- a reply to QUERY_FW of 61 bytes, by its revision and the byte at 0x3c
abbrev fw_reply : (rev byte : ℕ) → List ℕ
fw_reply rev byte =
    put_all (replicate 61 0)
    (field 0x00 2 0x0102 ∷ field 0x02 2 2 ∷ field 0x04 2 0x1f ∷ field 0x06 2 0x2a ∷ field 0x09 1 7 ∷ field 0x0a 2 rev ∷ field 0x0f 1 4 ∷ field 0x30 8 0x1234 ∷ field 0x38 4 0x10
    ∷ field 0x3c 1 byte ∷ [])

abbrev pub fw_numbers : FwInfo → List ℕ
fw_numbers i =
    i.pages ∷ i.major ∷ i.subminor ∷ i.minor ∷ i.ppf ∷ i.rev ∷ i.log_max_cmds ∷ i.catas_offset ∷ i.catas_size ∷ i.catas_bar ∷ []

-- a reply to QUERY_PORT of 40 bytes
abbrev port_reply : List ℕ
port_reply =
    put_all (replicate 40 0)
    (field 0x00 1 0x8b ∷ field 0x01 1 0x80 ∷ field 0x02 2 0x2580 ∷ field 0x05 1 0x74 ∷ field 0x0a 1 0x37 ∷ field 0x12 2 0x02c9 ∷ field 0x14 4 0x01020304 ∷ field 0x18 4 0x05060708
    ∷ field 0x1c 2 0x0352 ∷ field 0x20 8 0x1112131415161718 ∷ [])

abbrev pub port_numbers : PortInfo → List ℕ
port_numbers i =
    i.num ∷ yes i.link_up ∷ i.b0 ∷ i.mtu_cap ∷ i.log_macs ∷ yes i.autoneg ∷ yes i.an_complete ∷ i.speed ∷ i.xcvr ∷ i.wavelength ∷ i.xcvr_code ∷ i.mac

-- a reply to QUERY_FUNC of 12 bytes
abbrev func_reply : List ℕ
func_reply = put_all (replicate 12 0) (field 0x04 2 16 ∷ field 0x06 2 128 ∷ field 0x0b 1 0x25 ∷ [])

abbrev pub func_numbers : FuncInfo → List ℕ
func_numbers i = i.rsvd_eqs ∷ i.max_eqs ∷ i.rsvd_uars ∷ []

-- reply: QUERY_FW, QUERY_PORT, QUERY_FUNC
abbrev pub infos : List Row
infos =
    -- FwInfo::none: a revision that is accepted; the UAR register for the BAR
    row (fw_numbers no_fw) (0 ∷ 0 ∷ 0 ∷ 0 ∷ 0 ∷ 2 ∷ 0 ∷ 0 ∷ 0 ∷ 0 ∷ []) (0 ∷ 0 ∷ 0 ∷ 0 ∷ 0 ∷ 0 ∷ 0 ∷ 0 ∷ 0 ∷ 2 ∷ []) ∷
    -- query_fw, the buffer in the UAR BAR: by its register; minor and subminor exchanged
    row (told_by fw_numbers (query_fw_of (fw_reply 3 0x40) 1))
    (0 ∷ 0x0102 ∷ 2 ∷ 0x1f ∷ 0x2a ∷ 7 ∷ 3 ∷ 4 ∷ 0x1234 ∷ 0x10 ∷ 2 ∷ []) (0 ∷ 0x0102 ∷ 2 ∷ 0x2a ∷ 0x1f ∷ 7 ∷ 3 ∷ 4 ∷ 0x1234 ∷ 0x10 ∷ 1 ∷ []) ∷
    -- query_fw, the buffer in another BAR: by the index chosen; the bits not doubled
    row (told_by fw_numbers (query_fw_of (fw_reply 2 0x80) 1))
    (0 ∷ 0x0102 ∷ 2 ∷ 0x1f ∷ 0x2a ∷ 7 ∷ 2 ∷ 4 ∷ 0x1234 ∷ 0x10 ∷ 1 ∷ []) (0 ∷ 0x0102 ∷ 2 ∷ 0x1f ∷ 0x2a ∷ 7 ∷ 2 ∷ 4 ∷ 0x1234 ∷ 0x10 ∷ 2 ∷ []) ∷
    -- query_fw: the pages in the other order; the buffer's offset and size exchanged
    row (told_by fw_numbers (query_fw_of (fw_reply 3 0x40) 1))
    (0 ∷ 0x0201 ∷ 2 ∷ 0x1f ∷ 0x2a ∷ 7 ∷ 3 ∷ 4 ∷ 0x1234 ∷ 0x10 ∷ 1 ∷ []) (0 ∷ 0x0102 ∷ 2 ∷ 0x1f ∷ 0x2a ∷ 7 ∷ 3 ∷ 4 ∷ 0x10 ∷ 0x1234 ∷ 1 ∷ []) ∷
    -- query_fw, refused (revision 4): taken for 3; without the revision
    row (told_by fw_numbers (query_fw_of (fw_reply 4 0x40) 1)) (0 ∷ 0x0102 ∷ 2 ∷ 0x1f ∷ 0x2a ∷ 7 ∷ 4 ∷ 4 ∷ 0x1234 ∷ 0x10 ∷ 1 ∷ []) (11 ∷ []) ∷
    -- query_fw, refused (revision 1): taken; refused with 10
    row (said (query_fw_of (fw_reply 1 0x40) 1)) (0 ∷ []) (10 ∷ []) ∷
    -- query_fw (revision 3): refused; refused with 21
    row (said (query_fw_of (fw_reply 3 0x40) 1)) (11 ∷ 3 ∷ []) (21 ∷ []) ∷
    -- query_fw, refused (60 bytes): taken; refused as a revision
    row (said (query_fw_of (take 60 (fw_reply 3 0x40)) 1)) (0 ∷ []) (11 ∷ 3 ∷ []) ∷
    -- query_fw, refused (revision 4), what is held: nothing; the revision alone
    row (fw_numbers (fw_held (fw_reply 4 0x40) 1)) (0 ∷ 0 ∷ 0 ∷ 0 ∷ 0 ∷ 0 ∷ 0 ∷ 0 ∷ 0 ∷ 0 ∷ []) (0 ∷ 0 ∷ 0 ∷ 0 ∷ 0 ∷ 4 ∷ 0 ∷ 0 ∷ 0 ∷ 0 ∷ []) ∷
    -- query_fw, refused (60 bytes), what is held: the fields; the BAR alone
    row (fw_numbers (fw_held (take 60 (fw_reply 3 0x40)) 1)) (0x0102 ∷ 2 ∷ 0x1f ∷ 0x2a ∷ 7 ∷ 3 ∷ 4 ∷ 0x1234 ∷ 0x10 ∷ 0 ∷ []) (0 ∷ 0 ∷ 0 ∷ 0 ∷ 0 ∷ 0 ∷ 0 ∷ 0 ∷ 0 ∷ 1 ∷ []) ∷
    -- PortInfo::none: port 1; an address of ones
    row (port_numbers no_port)
    (1 ∷ 0 ∷ 0 ∷ 0 ∷ 0 ∷ 0 ∷ 0 ∷ 0 ∷ 0 ∷ 0 ∷ 0 ∷ 0 ∷ 0 ∷ 0 ∷ 0 ∷ 0 ∷ 0 ∷ []) (0 ∷ 0 ∷ 0 ∷ 0 ∷ 0 ∷ 0 ∷ 0 ∷ 0 ∷ 0 ∷ 0 ∷ 0 ∷ 255 ∷ 255 ∷ 255 ∷ 255 ∷ 255 ∷ 255 ∷ []) ∷
    -- query_port: a bit of the speed that the code has not; the low bits of it alone
    row (told_by port_numbers (query_port_of port_reply 1))
    (0 ∷ 1 ∷ 1 ∷ 0x8b ∷ 0x2580 ∷ 7 ∷ 1 ∷ 0 ∷ 0x74 ∷ 0x05060708 ∷ 0x0352 ∷ 0x1112131415161718 ∷ 2 ∷ 0xc9 ∷ 1 ∷ 2 ∷ 3 ∷ 4 ∷ [])
    (0 ∷ 1 ∷ 1 ∷ 0x8b ∷ 0x2580 ∷ 7 ∷ 1 ∷ 0 ∷ 4 ∷ 0x05060708 ∷ 0x0352 ∷ 0x1112131415161718 ∷ 2 ∷ 0xc9 ∷ 1 ∷ 2 ∷ 3 ∷ 4 ∷ []) ∷
    -- query_port: the link up where negotiation is complete, and the other way round; the address in the other order
    row (told_by port_numbers (query_port_of port_reply 1))
    (0 ∷ 1 ∷ 0 ∷ 0x8b ∷ 0x2580 ∷ 7 ∷ 1 ∷ 1 ∷ 0x64 ∷ 0x05060708 ∷ 0x0352 ∷ 0x1112131415161718 ∷ 2 ∷ 0xc9 ∷ 1 ∷ 2 ∷ 3 ∷ 4 ∷ [])
    (0 ∷ 1 ∷ 1 ∷ 0x8b ∷ 0x2580 ∷ 7 ∷ 1 ∷ 0 ∷ 0x64 ∷ 0x05060708 ∷ 0x0352 ∷ 0x1112131415161718 ∷ 4 ∷ 3 ∷ 2 ∷ 1 ∷ 0xc9 ∷ 2 ∷ []) ∷
    -- query_port: the port counted from 0; the whole byte for the MAC exponent
    row (told_by port_numbers (query_port_of port_reply 1))
    (0 ∷ 0 ∷ 1 ∷ 0x8b ∷ 0x2580 ∷ 7 ∷ 1 ∷ 0 ∷ 0x64 ∷ 0x05060708 ∷ 0x0352 ∷ 0x1112131415161718 ∷ 2 ∷ 0xc9 ∷ 1 ∷ 2 ∷ 3 ∷ 4 ∷ [])
    (0 ∷ 1 ∷ 1 ∷ 0x8b ∷ 0x2580 ∷ 0x37 ∷ 1 ∷ 0 ∷ 0x64 ∷ 0x05060708 ∷ 0x0352 ∷ 0x1112131415161718 ∷ 2 ∷ 0xc9 ∷ 1 ∷ 2 ∷ 3 ∷ 4 ∷ []) ∷
    -- query_port, refused (39 bytes): taken; refused with 20
    row (said (query_port_of (take 39 port_reply) 1)) (0 ∷ []) (20 ∷ []) ∷
    -- query_port, refused, what is held: the port's number; the fields that are there
    row (take 4 (port_numbers (value_or no_port (query_port_of (take 39 port_reply) 1)))) (1 ∷ 0 ∷ 0 ∷ 0 ∷ []) (1 ∷ 1 ∷ 0x8b ∷ 0x2580 ∷ []) ∷
    -- query_func: reserved and most EQs exchanged; the most for both
    row (told_by func_numbers (query_func_of func_reply)) (0 ∷ 128 ∷ 16 ∷ 5 ∷ []) (0 ∷ 128 ∷ 128 ∷ 5 ∷ []) ∷
    -- query_func: the whole byte for the reserved UARs; its high bits
    row (told_by func_numbers (query_func_of func_reply)) (0 ∷ 16 ∷ 128 ∷ 0x25 ∷ []) (0 ∷ 16 ∷ 128 ∷ 2 ∷ []) ∷
    -- query_func, refused (11 bytes): a byte past the end counts as 0; refused with 20
    row (told_by func_numbers (query_func_of (take 11 func_reply))) (0 ∷ 16 ∷ 128 ∷ 0 ∷ []) (20 ∷ []) ∷
    []

-- eleven tables: ALTC of four entries of a page, the others smaller than one
abbrev counts : List ℕ
counts = 2 ∷ 1 ∷ 3 ∷ 1 ∷ 4 ∷ 8 ∷ 16 ∷ 32 ∷ 1 ∷ 1 ∷ 64 ∷ []

abbrev entries : List ℕ
entries = 8 ∷ 8 ∷ 4096 ∷ 8 ∷ 8 ∷ 8 ∷ 8 ∷ 8 ∷ 8 ∷ 8 ∷ 8 ∷ []

abbrev tables : List Table
tables = rows_of counts entries

abbrev pub table_numbers : Table → List ℕ
table_numbers t = t.index ∷ t.entry ∷ t.count ∷ t.bytes ∷ t.base ∷ []

-- each table's index, bytes and base
unfoldable pub place_numbers : List Table → List ℕ
place_numbers [] = []
place_numbers (t ∷ ts) = t.index ∷ t.bytes ∷ t.base ∷ place_numbers ts

unfoldable pub range_numbers : List Range → List ℕ
range_numbers [] = []
range_numbers (r ∷ rs) = r.virt ∷ r.bytes ∷ range_numbers rs

abbrev pub layout_numbers : Layout → List ℕ
layout_numbers l = l.total ∷ place_numbers l.rows

abbrev pub mapped_numbers : Layout → List ℕ
mapped_numbers l = range_numbers l.ranges

-- a card with these capabilities
abbrev card : DevCap
card = dev_cap_of cap_reply

abbrev misfits : (Misfit → ℕ) → List ℕ
misfits t = t (f.Entry 9) ∷ t (f.Total 7) ∷ []

-- the ranges of these tables, as `mapped_numbers` tells them
abbrev ranges_are : List ℕ
ranges_are =
    0xb000 ∷ 0x1000 ∷ 0x800b000 ∷ 0x1000 ∷ 0x1000b000 ∷ 0x1000 ∷ 0x1800b000 ∷ 0x1000 ∷ 0x9000 ∷ 0x1000 ∷ 0xc000 ∷ 0x1000 ∷ 0xa000 ∷ 0x1000 ∷ 0x4000 ∷ 0x1000 ∷ 0x6000 ∷ 0x1000
    ∷ 0x0 ∷ 0x4000 ∷ 0x5000 ∷ 0x1000 ∷ 0x8000 ∷ 0x1000 ∷ 0x7000 ∷ 0x1000 ∷ 0xd000 ∷ 0x1000 ∷ []

-- layout
abbrev pub layouts : List Row
layouts =
    -- pow2: rounded down; a power of two doubled
    row (pow2_of 5 ∷ pow2_of 8 ∷ []) (4 ∷ 8 ∷ []) (8 ∷ 16 ∷ []) ∷
    -- pow2 (0, above 2^63): 0 for 0; 2^63 where 64 bits have none
    row (pow2_of 0 ∷ pow2_of (2 ^ 63 + 1) ∷ []) (0 ∷ 0 ∷ []) (1 ∷ 0x8000000000000000 ∷ []) ∷
    -- log2: one too many; one too few
    row (count_trailing_zeros 64 1024 ∷ []) (11 ∷ []) (9 ∷ []) ∷
    -- log2 of 0: 0; 63
    row (count_trailing_zeros 64 0 ∷ []) (0 ∷ []) (63 ∷ []) ∷
    -- Misfit::number: 16 and 17 exchanged; 16 for both
    row (misfits (λ x. number_of (misfit_by x))) (17 ∷ 16 ∷ []) (16 ∷ 16 ∷ []) ∷
    -- Table::none: a page of bytes; a count of 1
    row (table_numbers no_table) (0 ∷ 0 ∷ 0 ∷ 4096 ∷ 0 ∷ []) (0 ∷ 0 ∷ 1 ∷ 0 ∷ 0 ∷ []) ∷
    -- Layout::none: eleven pages in all; the tables numbered
    row (layout_numbers no_layout)
    (45056 ∷ 0 ∷ 0 ∷ 0 ∷ 0 ∷ 0 ∷ 0 ∷ 0 ∷ 0 ∷ 0 ∷ 0 ∷ 0 ∷ 0 ∷ 0 ∷ 0 ∷ 0 ∷ 0 ∷ 0 ∷ 0 ∷ 0 ∷ 0 ∷ 0 ∷ 0 ∷ 0 ∷ 0 ∷ 0 ∷ 0 ∷ 0 ∷ 0 ∷ 0 ∷ 0 ∷ 0 ∷ 0 ∷ 0 ∷ [])
    (0 ∷ 0 ∷ 0 ∷ 0 ∷ 1 ∷ 0 ∷ 0 ∷ 2 ∷ 0 ∷ 0 ∷ 3 ∷ 0 ∷ 0 ∷ 4 ∷ 0 ∷ 0 ∷ 5 ∷ 0 ∷ 0 ∷ 6 ∷ 0 ∷ 0 ∷ 7 ∷ 0 ∷ 0 ∷ 8 ∷ 0 ∷ 0 ∷ 9 ∷ 0 ∷ 0 ∷ 10 ∷ 0 ∷ 0 ∷ []) ∷
    -- Layout::none, the comparisons: one for each table but the first; L's
    row (no_layout.comparisons ∷ []) (10 ∷ []) (27 ∷ []) ∷
    -- find: the table at that place; none
    row (table_numbers (table_in 0 tables)) (2 ∷ 4096 ∷ 4 ∷ 0x4000 ∷ 0 ∷ []) (0 ∷ 0 ∷ 0 ∷ 0 ∷ 0 ∷ []) ∷
    -- find of no such index: the last table; the first
    row (table_numbers (table_in 11 tables)) (10 ∷ 8 ∷ 64 ∷ 0x1000 ∷ 0xd000 ∷ []) (2 ∷ 4096 ∷ 4 ∷ 0x4000 ∷ 0 ∷ []) ∷
    -- lay_out: of equal tables the later one first; by index alone
    row (told_by layout_numbers (layout_of counts entries 0xe000))
    (0 ∷ 0xe000 ∷ 2 ∷ 0x4000 ∷ 0x0 ∷ 10 ∷ 0x1000 ∷ 0x4000 ∷ 9 ∷ 0x1000 ∷ 0x5000 ∷ 8 ∷ 0x1000 ∷ 0x6000 ∷ 7 ∷ 0x1000 ∷ 0x7000 ∷ 6 ∷ 0x1000 ∷ 0x8000 ∷ 5 ∷ 0x1000 ∷ 0x9000 ∷ 4
    ∷ 0x1000 ∷ 0xa000 ∷ 3 ∷ 0x1000 ∷ 0xb000 ∷ 1 ∷ 0x1000 ∷ 0xc000 ∷ 0 ∷ 0x1000 ∷ 0xd000 ∷ [])
    (0 ∷ 0xe000 ∷ 0 ∷ 0x1000 ∷ 0x0 ∷ 1 ∷ 0x1000 ∷ 0x1000 ∷ 2 ∷ 0x4000 ∷ 0x2000 ∷ 3 ∷ 0x1000 ∷ 0x6000 ∷ 4 ∷ 0x1000 ∷ 0x7000 ∷ 5 ∷ 0x1000 ∷ 0x8000 ∷ 6 ∷ 0x1000 ∷ 0x9000 ∷ 7
    ∷ 0x1000 ∷ 0xa000 ∷ 8 ∷ 0x1000 ∷ 0xb000 ∷ 9 ∷ 0x1000 ∷ 0xc000 ∷ 10 ∷ 0x1000 ∷ 0xd000 ∷ []) ∷
    -- lay_out: the count not raised; the count halved before it is raised
    row (told_by layout_numbers (layout_of counts entries 0xe000))
    (0 ∷ 0xd000 ∷ 2 ∷ 0x3000 ∷ 0x0 ∷ 0 ∷ 0x1000 ∷ 0x3000 ∷ 1 ∷ 0x1000 ∷ 0x4000 ∷ 3 ∷ 0x1000 ∷ 0x5000 ∷ 4 ∷ 0x1000 ∷ 0x6000 ∷ 5 ∷ 0x1000 ∷ 0x7000 ∷ 6 ∷ 0x1000 ∷ 0x8000 ∷ 7
    ∷ 0x1000 ∷ 0x9000 ∷ 8 ∷ 0x1000 ∷ 0xa000 ∷ 9 ∷ 0x1000 ∷ 0xb000 ∷ 10 ∷ 0x1000 ∷ 0xc000 ∷ [])
    (0 ∷ 0xb000 ∷ 0 ∷ 0x1000 ∷ 0x0 ∷ 1 ∷ 0x1000 ∷ 0x1000 ∷ 2 ∷ 0x1000 ∷ 0x2000 ∷ 3 ∷ 0x1000 ∷ 0x3000 ∷ 4 ∷ 0x1000 ∷ 0x4000 ∷ 5 ∷ 0x1000 ∷ 0x5000 ∷ 6 ∷ 0x1000 ∷ 0x6000 ∷ 7
    ∷ 0x1000 ∷ 0x7000 ∷ 8 ∷ 0x1000 ∷ 0x8000 ∷ 9 ∷ 0x1000 ∷ 0x9000 ∷ 10 ∷ 0x1000 ∷ 0xa000 ∷ []) ∷
    -- lay_out: tables smaller than a page; by rising bytes
    row (told_by layout_numbers (layout_of counts entries 0xe000))
    (0 ∷ 0x4410 ∷ 2 ∷ 0x4000 ∷ 0x0 ∷ 10 ∷ 0x200 ∷ 0x4000 ∷ 7 ∷ 0x100 ∷ 0x4200 ∷ 6 ∷ 0x80 ∷ 0x4300 ∷ 5 ∷ 0x40 ∷ 0x4380 ∷ 4 ∷ 0x20 ∷ 0x43c0 ∷ 0 ∷ 0x10 ∷ 0x43e0 ∷ 1 ∷ 0x8 ∷ 0x43f0
    ∷ 3 ∷ 0x8 ∷ 0x43f8 ∷ 8 ∷ 0x8 ∷ 0x4400 ∷ 9 ∷ 0x8 ∷ 0x4408 ∷ [])
    (0 ∷ 0xe000 ∷ 0 ∷ 0x1000 ∷ 0x0 ∷ 1 ∷ 0x1000 ∷ 0x1000 ∷ 3 ∷ 0x1000 ∷ 0x2000 ∷ 4 ∷ 0x1000 ∷ 0x3000 ∷ 5 ∷ 0x1000 ∷ 0x4000 ∷ 6 ∷ 0x1000 ∷ 0x5000 ∷ 7 ∷ 0x1000 ∷ 0x6000 ∷ 8
    ∷ 0x1000 ∷ 0x7000 ∷ 9 ∷ 0x1000 ∷ 0x8000 ∷ 10 ∷ 0x1000 ∷ 0x9000 ∷ 2 ∷ 0x4000 ∷ 0xa000 ∷ []) ∷
    -- lay_out: L's layout; nothing placed
    row (told_by layout_numbers (layout_of counts entries 0x100121000))
    (0 ∷ 0x100121000 ∷ 8 ∷ 0x100000000 ∷ 0x0 ∷ 1 ∷ 0x80000 ∷ 0x100000000 ∷ 0 ∷ 0x40000 ∷ 0x100080000 ∷ 10 ∷ 0x40000 ∷ 0x1000c0000 ∷ 2 ∷ 0x10000 ∷ 0x100100000 ∷ 3 ∷ 0x8000
    ∷ 0x100110000 ∷ 6 ∷ 0x4000 ∷ 0x100118000 ∷ 5 ∷ 0x2000 ∷ 0x10011c000 ∷ 4 ∷ 0x1000 ∷ 0x10011e000 ∷ 7 ∷ 0x1000 ∷ 0x10011f000 ∷ 9 ∷ 0x1000 ∷ 0x100120000 ∷ [])
    (0 ∷ 0 ∷ 0 ∷ 0 ∷ 0 ∷ 0 ∷ 0 ∷ 0 ∷ 0 ∷ 0 ∷ 0 ∷ 0 ∷ 0 ∷ 0 ∷ 0 ∷ 0 ∷ 0 ∷ 0 ∷ 0 ∷ 0 ∷ 0 ∷ 0 ∷ 0 ∷ 0 ∷ 0 ∷ 0 ∷ 0 ∷ 0 ∷ 0 ∷ 0 ∷ 0 ∷ 0 ∷ 0 ∷ 0 ∷ 0 ∷ []) ∷
    -- lay_out, a table: the count as it was asked; the index of its place
    row (table_numbers (table_in 2 tables)) (2 ∷ 4096 ∷ 3 ∷ 0x4000 ∷ 0 ∷ []) (0 ∷ 4096 ∷ 4 ∷ 0x4000 ∷ 0 ∷ []) ∷
    -- lay_out, the ranges: all cMPT ranges at the table's start; EQC and MTT exchanged
    row (told_by mapped_numbers (layout_of counts entries 0xe000)) (0 ∷ set (set (set ranges_are 2 0xb000) 4 0xb000) 6 0xb000) (0 ∷ set (set ranges_are 8 0xc000) 10 0x9000) ∷
    -- lay_out, the ranges: cMPT in the first of the four alone; quarters in bytes, not in pages
    row (told_by mapped_numbers (layout_of counts entries 0xe000))
    (0 ∷ take 2 ranges_are ++ replicate 6 0 ++ drop 8 ranges_are) (0 ∷ set (set (set (set ranges_are 1 16) 3 32) 5 64) 7 128) ∷
    -- lay_out, a total that just fits: refused; refused with the lowest index
    row (said (layout_of counts entries 0xe000)) (17 ∷ 0xe000 ∷ []) (16 ∷ 0 ∷ []) ∷
    -- lay_out, refused (a byte too many): taken; the card's bytes beside it
    row (said (layout_of counts entries 0xdfff)) (0 ∷ []) (17 ∷ 0xdfff ∷ []) ∷
    -- lay_out, refused (entries 3 and 9): the highest index; the first that is one
    row (said (layout_of counts (set (set entries 3 24) 9 0) 0xe000)) (16 ∷ 9 ∷ []) (16 ∷ 0 ∷ []) ∷
    -- lay_out, refused (an entry of 0): passed over; without the index
    row (said (layout_of counts (set entries 9 0) 0xe000)) (0 ∷ []) (16 ∷ []) ∷
    -- lay_out, refused (an entry, and too many bytes): the total first; taken
    row (said (layout_of counts (set entries 3 24) 0)) (17 ∷ 0xe000 ∷ []) (0 ∷ []) ∷
    -- lay_out, refused, what is held: the total; the tables
    row (take 4 (layout_numbers (value_or no_layout (layout_of counts entries 0xdfff)))) (0xe000 ∷ 0 ∷ 0 ∷ 0 ∷ []) (0 ∷ 2 ∷ 0x4000 ∷ 0 ∷ []) ∷
    -- lay_out, the comparisons: on after the place is known, or an equal table passes; the one that stops a table is not counted
    row (told_by (λ l. l.comparisons ∷ []) (layout_of counts entries 0xe000)) (0 ∷ 55 ∷ []) (0 ∷ 2 ∷ []) ∷
    -- lay_out, the comparisons: one where none is left; those of the last table
    row (told_by (λ l. l.comparisons ∷ []) (layout_of counts entries 0xe000)) (0 ∷ 13 ∷ []) (0 ∷ 1 ∷ []) ∷
    -- lay_out, refused, the comparisons: those made; one for each table but the first
    row ((value_or no_layout (layout_of counts entries 0xdfff)).comparisons ∷ []) (11 ∷ []) (10 ∷ []) ∷
    -- base_sqpn (64 reserved): not raised; without the 257
    row (base_sqpn card ∷ []) (321 ∷ []) (64 ∷ []) ∷
    -- base_sqpn (256 reserved): 256 more, or rounded down; not raised
    row (base_sqpn (dev_cap_of (set cap_reply 0x12 8)) ∷ []) (512 ∷ []) (513 ∷ []) ∷
    -- first_free_mtt: in entries of another table, or no cache line; in bytes
    row (first_free_mtt card ∷ []) (1 ∷ []) (64 ∷ []) ∷
    -- first_free_mtt with an entry of 0: 0; a cache line
    row (first_free_mtt (dev_cap_of (put_at Big cap_reply 0x90 2 0)) ∷ []) (0 ∷ []) (64 ∷ []) ∷
    -- counts: no EQs without system EQs; more than 128
    row (counts_of card)
    (1024 ∷ 16384 ∷ 1024 ∷ 1024 ∷ 33 ∷ 132 ∷ 0 ∷ 64 ∷ 67108864 ∷ 264 ∷ 256 ∷ []) (1024 ∷ 16384 ∷ 1024 ∷ 1024 ∷ 33 ∷ 132 ∷ 256 ∷ 64 ∷ 67108864 ∷ 264 ∷ 256 ∷ []) ∷
    -- counts, 200 system EQs: at most 128; the card's maximum
    row (counts_of (dev_cap_of sys_reply))
    (1024 ∷ 16384 ∷ 1024 ∷ 1024 ∷ 33 ∷ 132 ∷ 128 ∷ 64 ∷ 67108864 ∷ 264 ∷ 256 ∷ []) (1024 ∷ 16384 ∷ 1024 ∷ 1024 ∷ 33 ∷ 132 ∷ 256 ∷ 64 ∷ 67108864 ∷ 264 ∷ 256 ∷ []) ∷
    -- counts: the reserved alone; no least for CQs and MPTs
    row (counts_of card)
    (1024 ∷ 16384 ∷ 1024 ∷ 1024 ∷ 32 ∷ 128 ∷ 128 ∷ 64 ∷ 67108864 ∷ 264 ∷ 256 ∷ []) (1024 ∷ 16384 ∷ 1024 ∷ 1024 ∷ 33 ∷ 132 ∷ 128 ∷ 17 ∷ 67108864 ∷ 264 ∷ 256 ∷ []) ∷
    -- counts: RDMARC as the QPs; the first free MTTs forgotten
    row (counts_of card)
    (1024 ∷ 1024 ∷ 1024 ∷ 1024 ∷ 33 ∷ 132 ∷ 128 ∷ 64 ∷ 67108864 ∷ 264 ∷ 256 ∷ []) (1024 ∷ 16384 ∷ 1024 ∷ 1024 ∷ 33 ∷ 132 ∷ 128 ∷ 64 ∷ 67108864 ∷ 256 ∷ 256 ∷ []) ∷
    -- profile, the total: that of L; refused
    row (told_by (λ l. l.total ∷ []) (profile_of card)) (0 ∷ 0x100121000 ∷ []) (17 ∷ 0x400015a000 ∷ []) ∷
    -- profile, the comparisons: L's; each table with all before it
    row (told_by (λ l. l.comparisons ∷ []) (profile_of card)) (0 ∷ 27 ∷ []) (0 ∷ 55 ∷ []) ∷
    -- profile, refused (one byte too many): taken; the card's bytes beside it
    row (said (profile_of (dev_cap_of (put_at Big cap_reply 0xa0 8 0x4000159fff)))) (0 ∷ []) (17 ∷ 0x4000159fff ∷ []) ∷
    -- profile, refused (an MTT entry of 24): taken; the entry beside it
    row (said (profile_of (dev_cap_of (put_at Big cap_reply 0x90 2 24)))) (0 ∷ []) (16 ∷ 24 ∷ []) ∷
    -- profile, refused, what is held: the total; a page for each table
    row ((value_or no_layout (profile_of (dev_cap_of (put_at Big cap_reply 0xa0 8 0x4000159fff)))).total ∷ []) (0x400015a000 ∷ []) (45056 ∷ []) ∷
    []

abbrev pub field_numbers : Field → List ℕ
field_numbers x = x.offset ∷ x.width ∷ x.value ∷ []

unfoldable pub fields_numbers : List Field → List ℕ
fields_numbers [] = []
fields_numbers (x ∷ xs) = field_numbers x ++ fields_numbers xs

abbrev pub hca_numbers : InitHca → List ℕ
hca_numbers i =
    i.flags ∷ i.qpc ∷ i.log_qps ∷ i.srqc ∷ i.log_srqs ∷ i.cqc ∷ i.log_cqs ∷ i.altc ∷ i.auxc ∷ i.eqc ∷ i.log_eqs ∷ i.num_sys_eqs ∷ i.rdmarc ∷ i.log_rdmarcs
    ∷ i.mcg ∷ i.log_mcg_entry ∷ i.log_mcg_hash ∷ i.steering ∷ i.log_mcgs ∷ i.dmpt ∷ i.windows ∷ i.log_mpts ∷ i.mtt ∷ i.cmpt ∷ i.log_uar_pages ∷ []

abbrev hca : InitHca
hca = init_of card tables

-- a mailbox that held ones, and one that is too short
abbrev ones : List ℕ
ones = replicate 4096 255

abbrev short : List ℕ
short = 7 ∷ 8 ∷ 9 ∷ 10 ∷ []

-- done or the refusal's number, and n bytes from i on as they are then
abbrev filled : List ℕ → (i n : ℕ) → List Field → List ℕ
filled s i n fs = told_unit (fill_of s) ++ take n (drop i (filled_by s fs))

-- what the card is told, as `hca_numbers` and `fields_numbers` tell it
abbrev hca_is : List ℕ
hca_is =
    17 ∷ 0x4000 ∷ 1 ∷ 0x7000 ∷ 2 ∷ 0x8000 ∷ 3 ∷ 0 ∷ 0x6000 ∷ 0x9000 ∷ 4 ∷ 0 ∷ 0x5000 ∷ 4 ∷ 0xd000 ∷ 10 ∷ 5 ∷ 8 ∷ 6 ∷ 0xa000 ∷ 0x80 ∷ 5 ∷ 0xc000 ∷ 0xb000 ∷ 11 ∷ []

abbrev fields_are : List ℕ
fields_are =
    0x0 ∷ 1 ∷ 2 ∷ 0xe ∷ 1 ∷ 0x50 ∷ 0x14 ∷ 4 ∷ 17 ∷ 0x30 ∷ 8 ∷ 0x4000 ∷ 0x37 ∷ 1 ∷ 1 ∷ 0x48 ∷ 8 ∷ 0x7000 ∷ 0x4f ∷ 1 ∷ 2 ∷ 0x50 ∷ 8 ∷ 0x8000 ∷ 0x57 ∷ 1 ∷ 3 ∷ 0x60 ∷ 8 ∷ 0 ∷ 0x70
    ∷ 8 ∷ 0x6000 ∷ 0x80 ∷ 8 ∷ 0x9000 ∷ 0x87 ∷ 1 ∷ 4 ∷ 0x8a ∷ 2 ∷ 0 ∷ 0x90 ∷ 8 ∷ 0x5000 ∷ 0x97 ∷ 1 ∷ 4 ∷ 0xc0 ∷ 8 ∷ 0xd000 ∷ 0xd3 ∷ 1 ∷ 10 ∷ 0xd7 ∷ 1 ∷ 5 ∷ 0xd8 ∷ 1 ∷ 8 ∷ 0xdb
    ∷ 1 ∷ 6 ∷ 0xf0 ∷ 8 ∷ 0xa000 ∷ 0xf8 ∷ 1 ∷ 0x80 ∷ 0xfb ∷ 1 ∷ 5 ∷ 0x100 ∷ 8 ∷ 0xc000 ∷ 0x108 ∷ 8 ∷ 0xb000 ∷ 0x12a ∷ 1 ∷ 11 ∷ 0x12b ∷ 1 ∷ 0 ∷ []

-- init
abbrev pub mailboxes : List Row
mailboxes =
    -- Field::byte: offset and value exchanged; two bytes
    row (field_numbers (field 0x37 1 10)) (10 ∷ 1 ∷ 0x37 ∷ []) (0x37 ∷ 2 ∷ 10 ∷ []) ∷
    -- Field::be16: one byte; four
    row (field_numbers (field 0x8a 2 200)) (0x8a ∷ 1 ∷ 200 ∷ []) (0x8a ∷ 4 ∷ 200 ∷ []) ∷
    -- Field::be32: two bytes; the value in the other order
    row (field_numbers (field 0x14 4 0x11)) (0x14 ∷ 2 ∷ 0x11 ∷ []) (0x14 ∷ 4 ∷ 0x11000000 ∷ []) ∷
    -- Field::be64: four bytes; offset and value exchanged
    row (field_numbers (field 0x30 8 0x4000)) (0x30 ∷ 4 ∷ 0x4000 ∷ []) (0x4000 ∷ 8 ∷ 0x30 ∷ []) ∷
    -- fields: the QPC log over the first byte of its base; a QPC base of four bytes
    row (fields_numbers (fields_of hca)) (set fields_are 12 0x30) (set fields_are 10 4) ∷
    -- fields: ALTC and AUXC exchanged; MTT and cMPT exchanged
    row (fields_numbers (fields_of hca)) (set (set fields_are 29 0x6000) 32 0) (set (set fields_are 74 0xb000) 77 0xc000) ∷
    -- fields: version 1; the UAR page log one place too high
    row (fields_numbers (fields_of hca)) (set fields_are 2 1) (set (set fields_are 78 0x12b) 81 0x12a) ∷
    -- fill, the first bytes: nothing written; bytes that are not named keep what they held
    row (filled ones 0 16 (fields_of hca))
    (0 ∷ 255 ∷ 255 ∷ 255 ∷ 255 ∷ 255 ∷ 255 ∷ 255 ∷ 255 ∷ 255 ∷ 255 ∷ 255 ∷ 255 ∷ 255 ∷ 255 ∷ 255 ∷ 255 ∷ [])
    (0 ∷ 2 ∷ 255 ∷ 255 ∷ 255 ∷ 255 ∷ 255 ∷ 255 ∷ 255 ∷ 255 ∷ 255 ∷ 255 ∷ 255 ∷ 255 ∷ 255 ∷ 0x50 ∷ 255 ∷ []) ∷
    -- fill, the QPC base: the log over its first byte; the log alone
    row (filled ones 0x30 8 (fields_of hca)) (0 ∷ 1 ∷ 0 ∷ 0 ∷ 0 ∷ 0 ∷ 0 ∷ 0x40 ∷ 0 ∷ []) (0 ∷ 0 ∷ 0 ∷ 0 ∷ 0 ∷ 0 ∷ 0 ∷ 0 ∷ 1 ∷ []) ∷
    -- fill, the last byte: not cleared; 1
    row (filled ones 4095 1 (fields_of hca)) (0 ∷ 255 ∷ []) (0 ∷ 1 ∷ []) ∷
    -- fill, refused: zeroed; said to be done
    row (filled short 0 4 (fields_of hca)) (21 ∷ 0 ∷ 0 ∷ 0 ∷ 0 ∷ []) (0 ∷ 7 ∷ 8 ∷ 9 ∷ 10 ∷ []) ∷
    -- fill, refused (4,095 bytes): filled; refused with 20
    row (told_unit (fill_of (replicate 4095 0))) (0 ∷ []) (20 ∷ []) ∷
    -- mod_stat_cfg: another page size; one place too high
    row (filled ones 0 4 mod_stat_cfg) (0 ∷ 0 ∷ 0 ∷ 0 ∷ 0 ∷ []) (0 ∷ 0 ∷ 0 ∷ 0 ∷ 1 ∷ []) ∷
    -- mod_stat_cfg: bytes that are not named keep what they held; nothing written
    row (filled ones 0 4 mod_stat_cfg) (0 ∷ 255 ∷ 255 ∷ 1 ∷ 0 ∷ []) (0 ∷ 255 ∷ 255 ∷ 255 ∷ 255 ∷ []) ∷
    -- mod_stat_cfg, refused: written all the same; said to be done
    row (filled short 0 4 mod_stat_cfg) (21 ∷ 0 ∷ 0 ∷ 1 ∷ 0 ∷ []) (0 ∷ 7 ∷ 8 ∷ 9 ∷ 10 ∷ []) ∷
    -- init_hca: ALTC and AUXC exchanged; the EQ log of a card with system EQs
    row (hca_numbers hca) (set (set hca_is 7 0x6000) 8 0) (set hca_is 10 0x1f) ∷
    -- init_hca: bit 4 of the flags by another capability; memory windows by one of the two alone
    row (hca_numbers hca) (set hca_is 0 1) (set hca_is 20 0) ∷
    -- init_hca: counts for logs; the hash as large as the table
    row (hca_numbers hca) (set (set (set (set (set (set hca_is 2 2) 4 4) 6 8) 10 16) 18 64) 21 32) (set hca_is 16 6) ∷
    -- init_hca: the log of the UAR bytes; an RDMARC log of 5
    row (hca_numbers hca) (set hca_is 24 23) (set hca_is 13 5) ∷
    -- init_hca, 200 system EQs: the table's log; their number forgotten
    row (hca_numbers (init_of (dev_cap_of sys_reply) tables)) (set hca_is 11 200) (set hca_is 10 0x1f) ∷
    []

abbrev pub replies : List Row
replies = capabilities ++ infos ++ layouts ++ mailboxes
