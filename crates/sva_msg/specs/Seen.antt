-- How what messages carry is seen by the definitions by labels.
use Rattle.sva_model.specs.States.{Extent as ExtentSeen}
use Rattle.sva_model.specs.Wire.{PageRequestWire}
use Rattle.sva_msg.specs.declared.extents.Extent.{Extent}
use Rattle.sva_msg.specs.declared.extents.Extent.TheVariants.{Pages, All}
use Rattle.sva_msg.specs.declared.messages.PageRequest.{PageRequest}

-- which pages of its PASID an invalidation covers (PCI Express Base 5.0, section 10.3.1): a range, or all
abbrev pub extent_seen : Extent → ExtentSeen
extent_seen (Pages range) = ExtentSeen.Pages range
extent_seen All = ExtentSeen.AllPages

-- a page request (PCI Express Base 5.0, section 10.4.1), with its PASID, its group's index, what it asks for, and whether it is the last
-- of the group
abbrev pub page_request_seen : PageRequest → PageRequestWire
page_request_seen request =
    record {
      pasid = request.pasid;
      index = request.index;
      ask = record { page = request.page; read = request.read; write = request.write };
      last = request.last;
    }
