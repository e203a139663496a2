-- Which error a call answers for an errno of the system.
use Rattle.std.specs.Prelude.{ℕ, List, [], ◌∷◌, nat_eq, if◌then◌else◌}
use Rattle.usb_error.specs.declared.kind.ErrorKind.{ErrorKind}
use Rattle.usb_error.specs.declared.kind.ErrorKind.TheVariants.{Disconnected, Busy, PermissionDenied as denied, NotFound, Other}
use Rattle.usb_error.specs.declared.message.Message.{Message}
use Rattle.usb_error.specs.declared.message.Message.TheVariants.{DeviceNotFound, DeviceDisconnected, PermissionDenied, FailedToOpenDevice, FailedToReadDescriptors, InvalidDeviceDescriptor, FailedToReadConfigurationValue, ConfigurationNotFound, DeviceIsBusy, FailedToSetConfiguration, FailedToResetDevice, InterfaceNotFound, InterfaceIsBusy, FailedToClaimInterface, NoKernelDriverAttached, FailedToDetachKernelDriver, KernelDriverAlreadyAttached, FailedToAttachKernelDriver, AlternateSettingNotFound, FailedToSetAlternateSetting, FailedToClearHalt, EndpointsAreInUse, InterfaceStillInUse, NoSuchEndpoint, IncorrectEndpointDirection, IncorrectEndpointType, EndpointHasNoPacketSize, EndpointAlreadyInUse, ListingNotFound, ListingDenied, FailedToOpenListing}
use Rattle.usb_error.specs.ErrorState.{ErrorState, coded, plain}

-- a table of the errnos that have an error of their own, each with its kind and its message
abbrev pub ErrorTable : Type 0
ErrorTable = List (ℕ × ErrorKind × Message)

-- the error of the row of an errno; without a row its kind is Other, with this message
abbrev pub error_in : ErrorTable → Message → ℕ → ErrorState
error_in [] otherwise errno = coded Other otherwise errno
error_in (row ∷ rows) otherwise errno =
    if nat_eq errno row.0 then coded row.1 row.2 errno else error_in rows otherwise errno

-- opening a device: ENOENT, no plugged device has the address; EPERM and EACCES, it is not allowed (`denied` is the kind PermissionDenied)
abbrev pub open_table : ErrorTable
open_table =
    (2, Disconnected, DeviceNotFound)
    ∷ (1, denied, PermissionDenied)
    ∷ (13, denied, PermissionDenied)
    ∷ []

abbrev pub open_error : ℕ → ErrorState
open_error errno = error_in open_table FailedToOpenDevice errno

-- reading the descriptors
abbrev pub read_descriptors_error : ℕ → ErrorState
read_descriptors_error errno = coded Other FailedToReadDescriptors errno

-- setting a configuration: ENODEV, the device is gone; EINVAL, it has no such configuration;
-- EBUSY, it is in use
abbrev pub set_configuration_table : ErrorTable
set_configuration_table =
    (19, Disconnected, DeviceDisconnected)
    ∷ (22, NotFound, ConfigurationNotFound)
    ∷ (16, Busy, DeviceIsBusy)
    ∷ []

abbrev pub set_configuration_error : ℕ → ErrorState
set_configuration_error errno = error_in set_configuration_table FailedToSetConfiguration errno

-- resetting a device: ENODEV, it is gone; EBUSY, it is in use
abbrev pub reset_table : ErrorTable
reset_table = (19, Disconnected, DeviceDisconnected) ∷ (16, Busy, DeviceIsBusy) ∷ []

abbrev pub reset_error : ℕ → ErrorState
reset_error errno = error_in reset_table FailedToResetDevice errno

-- claiming an interface: ENODEV, the device is gone; EINVAL and ENOENT, there is no such interface;
-- EBUSY, it is in use
abbrev pub claim_table : ErrorTable
claim_table =
    (19, Disconnected, DeviceDisconnected)
    ∷ (22, NotFound, InterfaceNotFound)
    ∷ (2, NotFound, InterfaceNotFound)
    ∷ (16, Busy, InterfaceIsBusy)
    ∷ []

abbrev pub claim_error : ℕ → ErrorState
claim_error errno = error_in claim_table FailedToClaimInterface errno

-- detaching a kernel driver: ENODEV, the device is gone; EINVAL, there is no such interface;
-- ENODATA, it has no driver
abbrev pub detach_table : ErrorTable
detach_table =
    (19, Disconnected, DeviceDisconnected)
    ∷ (22, NotFound, InterfaceNotFound)
    ∷ (61, Other, NoKernelDriverAttached)
    ∷ []

abbrev pub detach_error : ℕ → ErrorState
detach_error errno = error_in detach_table FailedToDetachKernelDriver errno

-- attaching a kernel driver: ENODEV, the device is gone; EINVAL, there is no such interface;
-- EBUSY, it has a driver
abbrev pub attach_table : ErrorTable
attach_table =
    (19, Disconnected, DeviceDisconnected)
    ∷ (22, NotFound, InterfaceNotFound)
    ∷ (16, Busy, KernelDriverAlreadyAttached)
    ∷ []

abbrev pub attach_error : ℕ → ErrorState
attach_error errno = error_in attach_table FailedToAttachKernelDriver errno

-- setting an alternate setting: ENODEV, the device is gone; EINVAL, the interface has no such
-- setting
abbrev pub alt_setting_table : ErrorTable
alt_setting_table =
    (19, Disconnected, DeviceDisconnected) ∷ (22, NotFound, AlternateSettingNotFound) ∷ []

abbrev pub alt_setting_error : ℕ → ErrorState
alt_setting_error errno = error_in alt_setting_table FailedToSetAlternateSetting errno

-- clearing a halt: ENODEV, the device is gone
abbrev pub clear_halt_table : ErrorTable
clear_halt_table = (19, Disconnected, DeviceDisconnected) ∷ []

abbrev pub clear_halt_error : ℕ → ErrorState
clear_halt_error errno = error_in clear_halt_table FailedToClearHalt errno

-- reading the active configuration while a device is opened, whatever the errno
abbrev pub configuration_error : ErrorState
configuration_error = plain Other FailedToReadConfigurationValue

-- the device's own descriptor is invalid
abbrev pub invalid_device_descriptor_error : ErrorState
invalid_device_descriptor_error = plain Other InvalidDeviceDescriptor

-- an endpoint of the interface lives, and its alternate setting is to be set
abbrev pub settings_in_use_error : ErrorState
settings_in_use_error = plain Busy EndpointsAreInUse

-- the interface has another owner, and is to be released
abbrev pub interface_in_use_error : ErrorState
interface_in_use_error = plain Busy InterfaceStillInUse

-- asking for an endpoint: these are looked at in this order
abbrev pub no_endpoint_error : ErrorState
no_endpoint_error = plain NotFound NoSuchEndpoint

abbrev pub wrong_direction_error : ErrorState
wrong_direction_error = plain Other IncorrectEndpointDirection

abbrev pub wrong_type_error : ErrorState
wrong_type_error = plain Other IncorrectEndpointType

abbrev pub no_packet_size_error : ErrorState
no_packet_size_error = plain Other EndpointHasNoPacketSize

abbrev pub endpoint_in_use_error : ErrorState
endpoint_in_use_error = plain Busy EndpointAlreadyInUse

-- listing the devices: ENOENT, there is no listing; EPERM and EACCES, it is not allowed
abbrev pub listing_table : ErrorTable
listing_table =
    (2, Other, ListingNotFound) ∷ (1, denied, ListingDenied) ∷ (13, denied, ListingDenied) ∷ []

abbrev pub listing_error : ℕ → ErrorState
listing_error errno = error_in listing_table FailedToOpenListing errno
