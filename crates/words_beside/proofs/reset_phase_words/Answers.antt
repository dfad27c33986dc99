use Rattle.words_beside.proofs.reset_phase_words.Goals as goal

pub returns-in-Saving : goal.returns-in-Saving
returns-in-Saving c = simp (
  c.in-Saving.is,
  c.wide8.ensures,
)

pub returns-in-Pointer : goal.returns-in-Pointer
returns-in-Pointer c = simp c.in-Pointer.is

pub returns-in-Header : goal.returns-in-Header
returns-in-Header c = simp (
  c.in-Header.is,
  c.wide8-in-Header.ensures,
  c.wide8-in-Header-2.ensures,
)

pub returns-in-Device : goal.returns-in-Device
returns-in-Device c = simp (
  c.in-Device.is,
  c.wide8-in-Device.ensures,
)

pub returns-in-Link : goal.returns-in-Link
returns-in-Link c = simp (
  c.in-Link.is,
  c.wide8-in-Link.ensures,
  c.wide16.ensures,
)

pub returns-in-Semaphore : goal.returns-in-Semaphore
returns-in-Semaphore c = simp (
  c.in-Semaphore.is,
  c.wide16-in-Semaphore.ensures,
)

pub returns-in-Hold : goal.returns-in-Hold
returns-in-Hold c = simp (
  c.in-Hold.is,
  c.wide16-in-Hold.ensures,
)

pub returns-in-Writing : goal.returns-in-Writing
returns-in-Writing c = simp c.in-Writing.is

pub returns-in-Settle : goal.returns-in-Settle
returns-in-Settle c = simp c.in-Settle.is

pub returns-in-Vendor : goal.returns-in-Vendor
returns-in-Vendor c = simp (
  c.in-Vendor.is,
  c.wide16-in-Vendor.ensures,
)

pub returns-in-Gone : goal.returns-in-Gone
returns-in-Gone c = simp (
  c.in-Gone.is,
  c.wide16-in-Gone.ensures,
)

pub returns-in-BackDevice : goal.returns-in-BackDevice
returns-in-BackDevice c = simp (
  c.in-BackDevice.is,
  c.wide8-in-BackDevice.ensures,
  c.wide16-in-BackDevice.ensures,
  c.wide16-in-BackDevice-2.ensures,
)

pub returns-in-BackLink : goal.returns-in-BackLink
returns-in-BackLink c = simp (
  c.in-BackLink.is,
  c.wide8-in-BackLink.ensures,
  c.wide16-in-BackLink.ensures,
)

pub returns-in-Back : goal.returns-in-Back
returns-in-Back c = simp (
  c.in-Back.is,
  c.wide8-in-Back.ensures,
)
